use Rattle.std.proofs.Common.{◌≡◌, map, take}
use Rattle.mmt_pace.specs.Spanned.{least_limit}
use Rattle.mmt_pace.proofs.limits.copy_limits.Given as goal

abbrev pub invariant-loop-i : goal.invariant-loop-i
invariant-loop-i l = l.limits.items ≡ map (least_limit l.cast) (take l.i l.copies)
