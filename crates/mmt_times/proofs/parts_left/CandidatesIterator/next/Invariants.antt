use Rattle.std.proofs.Common.{◌≡◌, length}
use Rattle.mmt_mpt.specs.DescriptorsLeft.{descriptors_left}
use Rattle.mmt_times.specs.NamesLeft.{candidates_left}
use Rattle.mmt_times.proofs.parts_left.CandidatesIterator.next.Given as goal

abbrev pub invariant-loop-candidate : goal.invariant-loop-candidate
invariant-loop-candidate l = candidates_left l.self ≡ candidates_left l.initial.self

abbrev pub decreases-loop-candidate : goal.decreases-loop-candidate
decreases-loop-candidate l = length (descriptors_left l.self.descriptors)
