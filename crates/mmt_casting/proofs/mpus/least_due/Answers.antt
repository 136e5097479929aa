use Rattle.std.proofs.Common.{arith}
use Rattle.mmt_casting.proofs.MpusSent.{least-first, least-more}
use Rattle.mmt_casting.proofs.mpus.least_due.Goals as goal

pub loop-i-init : goal.loop-i-init
loop-i-init c = least-first c.args.units.now c.args.first _ (omega arith)

pub loop-i-preserved : goal.loop-i-preserved
loop-i-preserved c = least-more c.args.units.now c.args.first c.loop-i.i _ c.loop-i.due c.earlier_of-due.result (omega arith) (omega arith) c.loop-i.invariant c.earlier_of-due.ensures
