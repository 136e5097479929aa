use Rattle.std.proofs.Common.{length, arith, ap, ◌∙◌}
use Rattle.mmt_admit.proofs.Walking.{walk-begins, walk-found, walk-passed}
use Rattle.mmt_model.specs.Admission.{fault_of_mpu, fault_of_naming}
use Rattle.mmt_model.specs.declared.casts.SentMpu.{SentMpu}
use Rattle.mmt_admit.proofs.starts.first_mpu.Goals as goal

pub loop-m-init : goal.loop-m-init
loop-m-init c = walk-begins (fault_of_mpu c.args.cast.now)

pub returns-then-is_some : goal.returns-then-is_some
unfolding fault_of_mpu
returns-then-is_some c =
    walk-found (fault_of_mpu c.args.cast.now) c.loop-m.m (length c.args.cast.now.mpus) c.naming_fault-found.result c.loop-m.invariant
    (c.naming_fault-found.ensures ∙ ap (λ (x : SentMpu). fault_of_naming c.args.cast.now.params.delay c.loop-m.m x.least.0 x.named_from) c.mpu_at-mpu.ensures) c.if-is_some.ensures (omega arith)

pub loop-m-preserved : goal.loop-m-preserved
unfolding fault_of_mpu
loop-m-preserved c =
    walk-passed (fault_of_mpu c.args.cast.now) c.loop-m.m c.naming_fault-found.result c.loop-m.invariant
    (c.naming_fault-found.ensures ∙ ap (λ (x : SentMpu). fault_of_naming c.args.cast.now.params.delay c.loop-m.m x.least.0 x.named_from) c.mpu_at-mpu.ensures) c.if-is_some.ensures
