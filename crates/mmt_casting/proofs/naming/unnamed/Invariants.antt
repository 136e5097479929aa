use Rattle.std.proofs.Common.{◌≡◌, replicate, None}
use Rattle.mmt_casting.proofs.naming.unnamed.Given as goal

abbrev pub invariant-loop-m : goal.invariant-loop-m
invariant-loop-m l = l.named.items ≡ replicate l._m None
