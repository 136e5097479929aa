use Rattle.mmt_pace.proofs.Lesser.{names-all, names-more}
use Rattle.mmt_pace.specs.Deadlines.{name_limit}
use Rattle.mmt_pace.proofs.limits.names_limit.Goals as goal

pub loop-i-preserved : goal.loop-i-preserved
loop-i-preserved c = names-more (name_limit c.args.cast.now c.args.last.0) c.args.names.now c.loop-i.i 0 c.name_limit.result c.lesser.result c.loop-i.limit c.loop-i-test.true c.loop-i.invariant c.name_limit.ensures c.lesser.ensures

pub returns : goal.returns
returns c = names-all (name_limit c.args.cast.now c.args.last.0) c.args.names.now c.loop-i.i c.loop-i.limit c.loop-i-test.false c.loop-i.invariant
