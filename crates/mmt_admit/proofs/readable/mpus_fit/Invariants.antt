use Rattle.std.proofs.Common.{ℕ, ◌<◌}
use Rattle.mmt_admit.specs.Faults.{MpuFits}
use Rattle.mmt_model.specs.Carrying.{sent_mpu}
use Rattle.mmt_admit.proofs.readable.mpus_fit.Given as goal

abbrev pub invariant-loop-m : goal.invariant-loop-m
invariant-loop-m l = (m : ℕ) → m < l.m → MpuFits (sent_mpu l.cast m)
