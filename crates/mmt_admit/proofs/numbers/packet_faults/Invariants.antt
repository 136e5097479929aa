use Rattle.std.proofs.Common.{◌≡◌}
use Rattle.mmt_admit.specs.Faults.{as_fault}
use Rattle.mmt_model.specs.Admission.{fault_of_gap, fault_of_number, first_below}
use Rattle.mmt_admit.proofs.Counting.{AreCounts}
use Rattle.mmt_admit.proofs.numbers.packet_faults.Given as goal

abbrev pub invariant-loop-n : goal.invariant-loop-n
invariant-loop-n l = record {
  gap : as_fault l.gap ≡ first_below (fault_of_gap l.packets) l.n;
  number : as_fault l.number ≡ first_below (fault_of_number l.packets) l.n;
  counts : AreCounts l.counts l.n l.packets;
}
