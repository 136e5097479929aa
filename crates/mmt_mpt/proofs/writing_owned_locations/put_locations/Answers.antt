use Rattle.mmt_mpt.specs.Location.{LocationFits}
use Rattle.mmt_mpt.specs.Owned.{owned_location}
use Rattle.mmt_mpt.proofs.Sizes.{one_fits}
use Rattle.mmt_mpt.proofs.writing_owned_locations.put_locations.Goals as goal

pub put_owned-requires-clause-fits : goal.put_owned-requires-clause-fits
put_owned-requires-clause-fits c = one_fits LocationFits owned_location c.args.locations.now c.loop-location.location-index c.location-item.result c.loop-location-test.true c.location-item.is c.requires.fit
