use Rattle.std.proofs.Common.{◌≡◌, None}
use Rattle.mmt_model.specs.Admission.{fault_of_mpu, first_below}
use Rattle.mmt_admit.proofs.starts.first_mpu.Given as goal

abbrev pub invariant-loop-m : goal.invariant-loop-m
invariant-loop-m l = first_below (fault_of_mpu l.cast) l.m ≡ None
