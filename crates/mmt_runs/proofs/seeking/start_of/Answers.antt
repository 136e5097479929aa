use Rattle.std.proofs.Common.{rules, arith, refl}
use Rattle.mmt_runs.proofs.Sought.{starts_after, starts_at, some_order}
use Rattle.mmt_runs.proofs.seeking.start_of.Goals as goal

pub returns-then-time-after-clause-start : goal.returns-then-time-after-clause-start
returns-then-time-after-clause-start c = rw c.in-Some.is (starts_after c.in-Some.after.now c.args.time c.place_of.result c.place_of.ensures)

pub returns-else-time-after-clause-start : goal.returns-else-time-after-clause-start
returns-else-time-after-clause-start c = starts_at _ c.args.time c.at_time.result (rw c.at_time.ensures (omega arith)) (rw c.at_time.ensures refl)

pub returns-in-None-clause-start : goal.returns-in-None-clause-start
returns-in-None-clause-start c = starts_at _ c.args.time c.at_time-in-None.result (rw c.at_time-in-None.ensures (omega arith)) (rw c.at_time-in-None.ensures refl)
