use Rattle.std.proofs.Common.{◌≡◌, ◌++◌, map}
use Rattle.mmt_mpt.specs.DescriptorsLeft.{descriptors_left}
use Rattle.mmt_mpt.specs.Owned.{owned_descriptor, unplaced}
use Rattle.mmt_mpt.proofs.owning.own_descriptors.Given as goal

abbrev pub invariant-loop-descriptor : goal.invariant-loop-descriptor
invariant-loop-descriptor l = map owned_descriptor l.owned ++ map unplaced (descriptors_left l.descriptor-iterator) ≡ map unplaced (descriptors_left l.fn.descriptors)
