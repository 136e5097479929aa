use Rattle.std.proofs.Common.{◌≡◌}
use Rattle.mmt_casting.specs.Spans.{start_of}
use Rattle.mmt_casting.proofs.casting.mpus_count.Given as goal

abbrev pub invariant-loop-a : goal.invariant-loop-a
invariant-loop-a l = l.count ≡ start_of l.programme l.a
