use Rattle.std.proofs.Common.{◌≡◌, ◌+◌, ◌≤◌, ◌++◌, length, map, drop}
use Rattle.std.specs.Prelude.{vec_len, vec_capacity}
use Rattle.std.specs.List.{flat_map}
use Rattle.mmt_mpt.specs.Descriptor.{descriptor_bytes}
use Rattle.mmt_mpt.specs.Owned.{owned_descriptor}
use Rattle.mmt_mpt.proofs.writing_descriptors.put_each.Given as goal

abbrev pub invariant-loop-descriptor : goal.invariant-loop-descriptor
invariant-loop-descriptor l = record {
  items : l.out.items ++ flat_map descriptor_bytes (map owned_descriptor (drop l.descriptor-index l.descriptors)) ≡ l.fn.out.items ++ flat_map descriptor_bytes (map owned_descriptor l.descriptors);
  room : vec_len l.out + length (flat_map descriptor_bytes (map owned_descriptor (drop l.descriptor-index l.descriptors))) ≤ vec_capacity l.out;
  capacity : vec_capacity l.fn.out ≤ vec_capacity l.out;
}
