use Rattle.std.proofs.Common.{◌≡◌, length}
use Rattle.mmt_mpt.specs.DescriptorsLeft.{descriptors_left}
use Rattle.mmt_times.specs.NamesLeft.{pairs_left}
use Rattle.mmt_times.proofs.parts_left.PairsIterator.next.Given as goal

abbrev pub invariant-loop-pair : goal.invariant-loop-pair
invariant-loop-pair l = pairs_left l.self ≡ pairs_left l.initial.self

abbrev pub decreases-loop-pair : goal.decreases-loop-pair
decreases-loop-pair l = length (descriptors_left l.self.descriptors)
