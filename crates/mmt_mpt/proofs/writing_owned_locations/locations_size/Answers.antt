use Rattle.std.proofs.Common.{map, arith}
use Rattle.std.proofs.lemmas.List.{length-map}
use Rattle.mmt_mpt.specs.Location.{LocationFits, location_bytes}
use Rattle.mmt_mpt.specs.Owned.{owned_location}
use Rattle.mmt_mpt.proofs.Sizes.{one_fits, left_long, locations_most}
use Rattle.mmt_mpt.proofs.writing_owned_locations.locations_size.Goals as goal

pub size_of-size-requires : goal.size_of-size-requires
size_of-size-requires c = one_fits LocationFits owned_location c.args.locations.now c.loop-location.location-index c.location-item.result c.loop-location-test.true c.location-item.is c.requires.fit

pub overflow_add-size : goal.overflow_add-size
overflow_add-size c = omega (arith, left_long location_bytes owned_location c.args.locations.now c.loop-location.location-index c.location-item.result c.loop-location-test.true c.location-item.is, locations_most (map owned_location c.args.locations.now) c.requires.fit, length-map c.args.locations.now owned_location, c.size_of-size.ensures, c.loop-location.invariant, c.requires.count)
