use Rattle.std.proofs.Common.{ℕ, ◌<◌, length}
use Rattle.mmt_admit.specs.Faults.{CopyFits}
use Rattle.mmt_model.specs.Carrying.{table_copy}
use Rattle.mmt_admit.proofs.readable.copies_fit.Given as goal

abbrev pub invariant-loop-c : goal.invariant-loop-c
invariant-loop-c l = (c : ℕ) → c < l.c → CopyFits (length l.cast.mpus) (table_copy l.cast c)
