use Rattle.std.proofs.Common.{ℕ, ◌<◌}
use Rattle.mmt_admit.specs.Faults.{UnitFits}
use Rattle.mmt_model.specs.Carrying.{sent_unit}
use Rattle.mmt_admit.proofs.readable.units_fit.Given as goal

abbrev pub invariant-loop-u : goal.invariant-loop-u
invariant-loop-u l = (u : ℕ) → u < l.u → UnitFits (sent_unit l.cast u)
