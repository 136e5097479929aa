use Rattle.std.proofs.Common.{◌≡◌, ◌++◌, map}
use Rattle.mmt_mpt.specs.LocationsLeft.{locations_left}
use Rattle.mmt_mpt.specs.Owned.{owned_location}
use Rattle.mmt_mpt.proofs.owning.own_locations.Given as goal

abbrev pub invariant-loop-location : goal.invariant-loop-location
invariant-loop-location l = map owned_location l.owned ++ locations_left l.location-iterator ≡ locations_left l.fn.locations
