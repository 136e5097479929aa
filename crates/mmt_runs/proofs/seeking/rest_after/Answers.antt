use Rattle.mmt_runs.proofs.Sought.{rest_behind, rest_all}
use Rattle.mmt_runs.proofs.seeking.rest_after.Goals as goal

pub returns-in-Some : goal.returns-in-Some
returns-in-Some c = rw c.in-Some.is (rest_behind c.in-Some.after.now c.place_of.result c.args.from.0 c.args.to.0 c.args.index.now.keys c.range.result c.place_of.ensures c.range.ensures.ordered (c.range.ensures.between tt))

pub returns-in-None : goal.returns-in-None
returns-in-None c = rw c.in-None.is (rest_all c.args.from.0 c.args.to.0 c.args.index.now.keys c.range-in-None.result c.range-in-None.ensures.ordered (c.range-in-None.ensures.between tt))
