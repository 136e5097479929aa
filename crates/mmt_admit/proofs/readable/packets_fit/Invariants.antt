use Rattle.std.proofs.Common.{ℕ, ◌<◌, ◌^◌, get_or}
use Rattle.mmt_model.specs.Survival.{no_packet}
use Rattle.mmt_admit.proofs.readable.packets_fit.Given as goal

abbrev pub invariant-loop-n : goal.invariant-loop-n
invariant-loop-n l = (k : ℕ) → k < l.n → (get_or l.packets k no_packet).at.0 < 2 ^ 60
