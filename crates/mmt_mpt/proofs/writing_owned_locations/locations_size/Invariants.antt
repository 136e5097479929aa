use Rattle.std.proofs.Common.{◌≡◌, ◌+◌, length, map, drop}
use Rattle.std.specs.List.{flat_map}
use Rattle.mmt_mpt.specs.Location.{location_bytes}
use Rattle.mmt_mpt.specs.Owned.{owned_location}
use Rattle.mmt_mpt.proofs.writing_owned_locations.locations_size.Given as goal

abbrev pub invariant-loop-location : goal.invariant-loop-location
invariant-loop-location l = l.size + length (flat_map location_bytes (map owned_location (drop l.location-index l.locations))) ≡ length (flat_map location_bytes (map owned_location l.locations))
