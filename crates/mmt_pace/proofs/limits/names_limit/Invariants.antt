use Rattle.std.proofs.Common.{◌≡◌, map, take}
use Rattle.mmt_pace.specs.Deadlines.{name_limit}
use Rattle.mmt_pace.specs.Spanned.{least_of}
use Rattle.mmt_pace.proofs.limits.names_limit.Given as goal

abbrev pub invariant-loop-i : goal.invariant-loop-i
invariant-loop-i l = l.limit ≡ least_of (map (name_limit l.cast l.last.0) (take l.i l.names))
