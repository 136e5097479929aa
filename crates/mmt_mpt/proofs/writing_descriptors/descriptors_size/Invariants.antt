use Rattle.std.proofs.Common.{◌≡◌, ◌+◌, length, map, drop}
use Rattle.std.specs.List.{flat_map}
use Rattle.mmt_mpt.specs.Descriptor.{descriptor_bytes}
use Rattle.mmt_mpt.specs.Owned.{owned_descriptor}
use Rattle.mmt_mpt.proofs.writing_descriptors.descriptors_size.Given as goal

abbrev pub invariant-loop-descriptor : goal.invariant-loop-descriptor
invariant-loop-descriptor l = l.size + length (flat_map descriptor_bytes (map owned_descriptor (drop l.descriptor-index l.descriptors))) ≡ length (flat_map descriptor_bytes (map owned_descriptor l.descriptors))
