use Rattle.std.proofs.Common.{◌≡◌, ◌∙◌, ◌-◌, arith, ap, sym, List, length, get_or, None}
use Rattle.mmt_casting.proofs.InTime.{place-here, place-next, time-none, time-some, times_from}
use Rattle.mmt_model.specs.declared.programmes.Au.{Au}
use Rattle.mmt_casting.proofs.due.au_time.Goals as goal

pub loop-i-init : goal.loop-i-init
loop-i-init c = record {
  at = ap (λ xs. get_or (times_from c.args.mpu.now.time.0 c.args.mpu.now.decoding_offset c.args.timescale 0 0 xs) c.args.place None) (sym c.as_slice-aus.ensures)
      ∙ ap (λ k. get_or (times_from c.args.mpu.now.time.0 c.args.mpu.now.decoding_offset c.args.timescale 0 0 c.as_slice-aus.result.now) k None) (omega arith);
  before = omega arith;
}

pub loop-i-preserved : goal.loop-i-preserved
loop-i-preserved c = record {
  at = place-next c.args.mpu.now.time.0 c.args.mpu.now.decoding_offset c.args.timescale c.loop-i.i c.loop-i.before c.args.place c.as_slice-aus.result.now _ _ c.loop-i-test.true
      (omega (arith, c.loop-i-test.true, c.requires.inside, ap (λ (xs : List Au). length xs) c.as_slice-aus.ensures)) c.loop-i.invariant.at;
  before = omega (arith, c.loop-i.invariant.before);
}

pub returns-in-Some : goal.returns-in-Some
returns-in-Some c =
    let e : c.loop-i.i ≡ c.args.place = omega arith in
    time-some c.args.mpu.now c.args.timescale c.args.place c.in-Some.time _ c.requires.timed
    (place-here c.args.mpu.now.time.0 c.args.mpu.now.decoding_offset c.args.timescale c.loop-i.before c.args.place c.as_slice-aus.result.now _ _
    (omega (arith, c.requires.inside, ap (λ (xs : List Au). length xs) c.as_slice-aus.ensures))
    (c.loop-i.invariant.at ∙ ap (λ i. get_or (times_from c.args.mpu.now.time.0 c.args.mpu.now.decoding_offset c.args.timescale i c.loop-i.before c.as_slice-aus.result.now) (c.args.place - i) None) e))
    c.in-Some.ensures

pub returns-in-None : goal.returns-in-None
returns-in-None c =
    let e : c.loop-i.i ≡ c.args.place = omega arith in
    absurd (time-none c.args.mpu.now c.args.timescale c.args.place _ c.requires.timed c.requires.inside
    (place-here c.args.mpu.now.time.0 c.args.mpu.now.decoding_offset c.args.timescale c.loop-i.before c.args.place c.as_slice-aus.result.now _ _
    (omega (arith, c.requires.inside, ap (λ (xs : List Au). length xs) c.as_slice-aus.ensures))
    (c.loop-i.invariant.at ∙ ap (λ i. get_or (times_from c.args.mpu.now.time.0 c.args.mpu.now.decoding_offset c.args.timescale i c.loop-i.before c.as_slice-aus.result.now) (c.args.place - i) None) e))
    (sym c.in-None.ensures))
