use Rattle.std.proofs.Common.{◌≡◌, length}
use Rattle.mmt_mpt.specs.DescriptorsLeft.{descriptors_left}
use Rattle.mmt_times.specs.NamesLeft.{refusals_left}
use Rattle.mmt_times.proofs.parts_left.RefusalsIterator.next.Given as goal

abbrev pub invariant-loop-descriptor : goal.invariant-loop-descriptor
invariant-loop-descriptor l = refusals_left l.self ≡ refusals_left l.initial.self

abbrev pub decreases-loop-descriptor : goal.decreases-loop-descriptor
decreases-loop-descriptor l = length (descriptors_left l.self.descriptors)
