use Rattle.std.proofs.Common.{◌≡◌, ◌+◌, ◌≤◌, ◌++◌, length, map, drop}
use Rattle.std.specs.Prelude.{vec_len, vec_capacity}
use Rattle.std.specs.List.{flat_map}
use Rattle.mmt_mpt.specs.Location.{location_bytes}
use Rattle.mmt_mpt.specs.Owned.{owned_location}
use Rattle.mmt_mpt.proofs.writing_owned_locations.put_locations.Given as goal

abbrev pub invariant-loop-location : goal.invariant-loop-location
invariant-loop-location l = record {
  items : l.out.items ++ flat_map location_bytes (map owned_location (drop l.location-index l.locations)) ≡ l.fn.out.items ++ flat_map location_bytes (map owned_location l.locations);
  room : vec_len l.out + length (flat_map location_bytes (map owned_location (drop l.location-index l.locations))) ≤ vec_capacity l.out;
  capacity : vec_capacity l.fn.out ≤ vec_capacity l.out;
}
