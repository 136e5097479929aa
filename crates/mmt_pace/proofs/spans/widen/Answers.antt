use Rattle.std.proofs.Common.{arith}
use Rattle.mmt_pace.proofs.Widening.{none-widened, one-widened}
use Rattle.mmt_pace.proofs.spans.widen.Goals as goal

pub loop-k-init : goal.loop-k-init
loop-k-init c = none-widened c.args.run.first c.args.at.0 c.args.spans.now

pub loop-k-preserved : goal.loop-k-preserved
loop-k-preserved c =
    one-widened c.args.run.first c.loop-k.k c.args.at.0 c.args.spans.now c.loop-k.spans c.widened.result _ (omega (arith, c.requires.known, c.loop-k-test.true)) c.loop-k.auto.spans c.widened.ensures c.loop-k.invariant
