use Rattle.std.proofs.Common.{◌+◌, drop, sym, ap, ◌∙◌}
use Rattle.mmt_cast.specs.Refusing.{refusal_of_signal, refusal_of_signals}
use Rattle.mmt_casting.proofs.FirstOut.{ends-found, ends-none, ends-passed}
use Rattle.mmt_casting.proofs.Long.{signals-next, signals-past}
use Rattle.mmt_casting.proofs.OwnNames.{signal-fits}
use Rattle.mmt_casting.proofs.Sendings.{programme-fits}
use Rattle.mmt_casting.proofs.tables.tables_end.Goals as goal

pub returns-then-is_some : goal.returns-then-is_some
returns-then-is_some c =
    ends-found (refusal_of_signals c.args.programme.now 0 c.args.programme.now.signals) (refusal_of_signal c.args.programme.now c.loop-s.s c.index-signals-s.result) (refusal_of_signals c.args.programme.now (c.loop-s.s + 1) (drop (c.loop-s.s + 1) c.as_slice-signals.result.now)) c.table_end-end.result
    c.table_end-end.ensures c.if-is_some.ensures
    (ap (refusal_of_signals c.args.programme.now 0) (sym c.as_slice-signals.ensures) ∙ (c.loop-s.invariant ∙ signals-next c.args.programme.now c.loop-s.s c.as_slice-signals.result.now c.index-signals-s.result c.loop-s-test.true c.index-signals-s.is))

pub loop-s-preserved : goal.loop-s-preserved
loop-s-preserved c =
    ends-passed (refusal_of_signals c.args.programme.now 0 c.as_slice-signals.result.now) (refusal_of_signal c.args.programme.now c.loop-s.s c.index-signals-s.result) (refusal_of_signals c.args.programme.now (c.loop-s.s + 1) (drop (c.loop-s.s + 1) c.as_slice-signals.result.now)) c.table_end-end.result
    c.table_end-end.ensures c.if-is_some.ensures
    (c.loop-s.invariant ∙ signals-next c.args.programme.now c.loop-s.s c.as_slice-signals.result.now c.index-signals-s.result c.loop-s-test.true c.index-signals-s.is)

pub returns : goal.returns
returns c =
    ends-none (refusal_of_signals c.args.programme.now 0 c.args.programme.now.signals)
    (ap (refusal_of_signals c.args.programme.now 0) (sym c.as_slice-signals.ensures) ∙ (c.loop-s.invariant ∙ signals-past c.args.programme.now c.loop-s.s c.as_slice-signals.result.now c.loop-s-test.false))

pub table_end-end-requires-clause-fits : goal.table_end-end-requires-clause-fits
table_end-end-requires-clause-fits c = programme-fits c.args.programme.now c.requires

pub table_end-end-requires-clause-names : goal.table_end-end-requires-clause-names
table_end-end-requires-clause-names c = signal-fits c.args.programme.now c.requires c.loop-s.s c.as_slice-signals.result.now c.index-signals-s.result c.as_slice-signals.ensures c.loop-s-test.true c.index-signals-s.is
