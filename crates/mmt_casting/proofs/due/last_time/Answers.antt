use Rattle.std.proofs.Common.{arith, ap, sym, max}
use Rattle.std.specs.List.{fold}
use Rattle.mmt_casting.proofs.InTime.{last-end, last-none, last-some, times_from}
use Rattle.mmt_times.specs.Times.{in_range}
use Rattle.mmt_casting.proofs.due.last_time.Goals as goal

pub loop-i-init : goal.loop-i-init
loop-i-init c = record {
  last = ap (λ xs. fold max c.args.mpu.now.time.0 (in_range (times_from c.args.mpu.now.time.0 c.args.mpu.now.decoding_offset c.args.timescale 0 0 xs))) (sym c.as_slice-aus.ensures);
  before = omega arith;
}

pub returns-in-None : goal.returns-in-None
returns-in-None c =
    last-none c.args.mpu.now.time.0 c.args.mpu.now.decoding_offset c.args.timescale c.loop-i.i c.loop-i.before c.loop-i.last.0 c.as_slice-aus.result.now _ _ c.loop-i-test.true c.in-None.ensures c.loop-i.invariant.last

pub loop-i-preserved : goal.loop-i-preserved
loop-i-preserved c = record {
  last = last-some c.args.mpu.now.time.0 c.args.mpu.now.decoding_offset c.args.timescale c.loop-i.i c.loop-i.before c.loop-i.last.0 c.later_of-last.result.0 c.as_slice-aus.result.now _ c.in-Some.time _ c.loop-i-test.true c.in-Some.ensures
      c.later_of-last.ensures c.loop-i.invariant.last;
  before = omega (arith, c.loop-i.invariant.before, c.loop-i-test.true);
}

pub returns : goal.returns
returns c = last-end c.args.mpu.now.time.0 c.args.mpu.now.decoding_offset c.args.timescale c.loop-i.i c.loop-i.before c.loop-i.last.0 c.as_slice-aus.result.now _ c.loop-i-test.false c.loop-i.invariant.last
