use Rattle.std.proofs.Common.{◌≡◌, drop}
use Rattle.mmt_cast.specs.Refusing.{refusal_of_signals}
use Rattle.mmt_casting.proofs.tables.tables_end.Given as goal

abbrev pub invariant-loop-s : goal.invariant-loop-s
invariant-loop-s l = refusal_of_signals l.programme 0 l.signals ≡ refusal_of_signals l.programme l.s (drop l.s l.signals)
