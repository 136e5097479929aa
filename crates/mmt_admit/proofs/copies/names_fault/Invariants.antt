use Rattle.std.proofs.Common.{◌≡◌, None, take}
use Rattle.mmt_model.specs.Admission.{fault_of_name, first_among}
use Rattle.mmt_admit.proofs.copies.names_fault.Given as goal

abbrev pub invariant-loop-i : goal.invariant-loop-i
invariant-loop-i l = first_among (fault_of_name l.cast l.c) (take l.i l.names) ≡ None
