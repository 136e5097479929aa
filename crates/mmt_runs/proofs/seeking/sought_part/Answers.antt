use Rattle.std.proofs.Common.{rules, refl}
use Rattle.mmt_runs.proofs.Sought.{rest_between}
use Rattle.mmt_runs.proofs.seeking.sought_part.Goals as goal

pub returns-then-start-end : goal.returns-then-start-end
returns-then-start-end c = rest_between _ c.start_of-start.result c.at_time-end.result c.args.from.0 c.args.to.0 c.args.index.now.keys c.range.result c.in-Some.stretch c.in-Some.ensures c.start_of-start.ensures.start (rw c.at_time-end.ensures refl) c.range.ensures.ordered (c.range.ensures.between tt)
