use Rattle.std.proofs.Common.{arith}
use Rattle.mmt_pace.specs.Deadlines.{unit_limit}
use Rattle.mmt_pace.proofs.Lesser.{group-first, group-more}
use Rattle.mmt_pace.proofs.limits.group_limit.Goals as goal

pub loop-k-init : goal.loop-k-init
loop-k-init c = (omega arith, group-first (unit_limit c.args.cast.now) c.args.first c.unit_limit-limit.result c.unit_limit-limit.ensures)

pub loop-k-preserved : goal.loop-k-preserved
loop-k-preserved c = (omega arith, group-more (unit_limit c.args.cast.now) c.args.first c.loop-k.k c.unit_limit.result c.loop-k.limit c.min-limit.result c.loop-k.invariant.0 c.loop-k.invariant.1 c.unit_limit.ensures c.min-limit.ensures)
