use Rattle.std.proofs.Common.{◌≡◌, ◌<◌, ◌≤◌, ◌&&◌, Bool, nat_lt, true, false, length, arith, ap, sym, ◌∙◌}
use Rattle.mmt_admit.proofs.Keys.{live-begins, live-ends, live-no, live-yes}
use Rattle.mmt_model.specs.Admission.{is_named_by}
use Rattle.mmt_model.specs.Carrying.{sent_mpu}
use Rattle.mmt_model.specs.declared.casts.SentMpu.{SentMpu}
use Rattle.mmt_admit.proofs.live.living.Goals as goal
use Rattle.mmt_admit.proofs.live.living.Goals.{then-is_live, else-is_live}

pub loop-m-init : goal.loop-m-init
loop-m-init c = (sym (live-begins c.args.low c.args.high c.args.cast.now.mpus), omega arith)

pub loop-m-preserved : goal.loop-m-preserved
loop-m-preserved c =
    let within : c.loop-m.m < length c.args.cast.now.mpus = omega arith in
    let test : SentMpu → Bool = λ x. is_named_by c.args.high x.named_from && nat_lt c.args.low x.last.0 in
    elim c.if-is_live.branch [
      | then-is_live w ↦ (let yes' : test (sent_mpu c.args.cast.now c.loop-m.m) ≡ true = sym (ap test c.mpu_at-mpu.ensures) ∙ sym w.if-is_live.ensures in
          (omega (arith, w.count-is, c.loop-m.invariant.0, live-yes c.args.cast.now c.args.low c.args.high c.loop-m.m within yes'), omega (arith, w.count-is, c.loop-m.invariant.1)))
      | else-is_live w ↦ (let no' : test (sent_mpu c.args.cast.now c.loop-m.m) ≡ false = sym (ap test c.mpu_at-mpu.ensures) ∙ sym w.if-is_live.ensures in
          (omega (arith, w.count-is, c.loop-m.invariant.0, live-no c.args.cast.now c.args.low c.args.high c.loop-m.m within no'), omega (arith, w.count-is, c.loop-m.invariant.1)))
    ]

pub returns : goal.returns
returns c =
    let past : length c.args.cast.now.mpus ≤ c.loop-m.m = omega arith in
    c.loop-m.invariant.0 ∙ live-ends c.args.low c.args.high c.loop-m.m c.args.cast.now.mpus past
