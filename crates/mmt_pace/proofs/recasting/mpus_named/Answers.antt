use Rattle.std.proofs.Common.{get_or, arith}
use Rattle.mmt_model.specs.Carrying.{no_sent_mpu}
use Rattle.mmt_pace.proofs.Between.{all-there, mpu-made, none-yet, one-more}
use Rattle.mmt_pace.specs.Recast.{mpu_named_by}
use Rattle.mmt_pace.proofs.recasting.mpus_named.Goals as goal

pub loop-n-init : goal.loop-n-init
loop-n-init c = λ copies are. none-yet (λ i. mpu_named_by copies i (get_or c.args.mpus.now i no_sent_mpu)) c.in_ok-all.all.items c.in_ok-all.ensures.items

pub loop-n-preserved : goal.loop-n-preserved
loop-n-preserved c = λ copies are.
    one-more (λ i. mpu_named_by copies i (get_or c.args.mpus.now i no_sent_mpu)) c.loop-n.n c.loop-n.all.items c.push.new.self.items _ (c.loop-n.invariant copies are) c.in_ok-push.ensures.items
    (mpu-made copies c.args.mpus.now c.loop-n.n _ c.args.named.now _ c.loop-n-test.true c.requires are)

pub returns : goal.returns
returns c = λ copies are. all-there (λ i x. mpu_named_by copies i x) no_sent_mpu c.args.mpus.now c.loop-n.n c.loop-n.all.items (omega arith) (c.loop-n.invariant copies are)
