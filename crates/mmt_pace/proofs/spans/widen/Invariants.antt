use Rattle.mmt_pace.proofs.Widening.{AreWidened}
use Rattle.mmt_pace.proofs.spans.widen.Given as goal

abbrev pub invariant-loop-k : goal.invariant-loop-k
invariant-loop-k l = AreWidened l.run.first l.k l.at.0 l.initial.spans l.spans
