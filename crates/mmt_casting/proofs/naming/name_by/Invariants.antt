use Rattle.std.proofs.Common.{◌≡◌, ◌<◌, ℕ, length, get_or, take, None}
use Rattle.mmt_casting.specs.Named.{named_with}
use Rattle.mmt_model.specs.Counts.{member}
use Rattle.mmt_casting.proofs.naming.name_by.Given as goal

abbrev pub invariant-loop-j : goal.invariant-loop-j
invariant-loop-j l = (m : ℕ) → m < length l.named → get_or l.named m None ≡ named_with (member m (take l.j l.names)) l.last (get_or l.initial.named m None)
