use Rattle.std.proofs.Common.{arith, sym, ap, ◌∙◌}
use Rattle.mmt_casting.proofs.FirstOut.{out_from, range-in, range-out, range-past}
use Rattle.mmt_casting.proofs.ranges.first_out.Goals as goal

pub returns-then-is_none : goal.returns-then-is_none
returns-then-is_none c =
    sym (ap (out_from c.args.mpu.now.time.0 c.args.mpu.now.decoding_offset c.args.timescale 0 0) (sym c.as_slice-aus.ensures)
    ∙ (c.loop-i.invariant.0 ∙ range-out c.args.mpu.now.time.0 c.args.mpu.now.decoding_offset c.args.timescale c.loop-i.before c.loop-i.i c.as_slice-aus.result.now _ c.time_at-time.result c.loop-i-test.true c.time_at-time.ensures c.if-is_none.ensures))

pub loop-i-preserved : goal.loop-i-preserved
loop-i-preserved c =
    (c.loop-i.invariant.0 ∙ range-in c.args.mpu.now.time.0 c.args.mpu.now.decoding_offset c.args.timescale c.loop-i.before c.loop-i.i c.as_slice-aus.result.now _ c.time_at-time.result c.loop-i-test.true c.time_at-time.ensures c.if-is_none.ensures, omega (arith, c.loop-i.invariant.1, c.loop-i-test.true))

pub returns : goal.returns
returns c =
    sym (ap (out_from c.args.mpu.now.time.0 c.args.mpu.now.decoding_offset c.args.timescale 0 0) (sym c.as_slice-aus.ensures)
    ∙ (c.loop-i.invariant.0 ∙ range-past c.args.mpu.now.time.0 c.args.mpu.now.decoding_offset c.args.timescale c.loop-i.before c.loop-i.i c.as_slice-aus.result.now c.loop-i-test.false))
