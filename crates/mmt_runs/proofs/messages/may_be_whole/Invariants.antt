use Rattle.mmt_runs.proofs.Sides.{Sided}
use Rattle.mmt_runs.proofs.messages.may_be_whole.Given as goal

abbrev pub invariant-loop-step : goal.invariant-loop-step
invariant-loop-step l = Sided l.pool.kept l.span.packet_id l.span.number l.before l.after
