use Rattle.std.proofs.Common.{arith, refl}
use Rattle.mmt_casting.proofs.InTime.{sample-inside, sample-none, sample-outside}
use Rattle.mmt_casting.proofs.due.sample_time.Goals as goal

pub returns-then-place-len : goal.returns-then-place-len
returns-then-place-len c =
    sample-inside c.args.mpu.now c.args.timescale c.args.sample c.au_time.result.0 c.requires.timed c.if-sample-ge1.true (omega (arith, c.if-place-len.true, c.len.ensures)) c.au_time.ensures

pub returns-else-place-len : goal.returns-else-place-len
returns-else-place-len c = sample-outside c.args.mpu.now c.args.timescale c.args.sample c.args.mpu.now.time.0 c.requires.timed (omega (arith, c.if-place-len.false, c.len.ensures)) refl

pub returns-else-sample-ge1 : goal.returns-else-sample-ge1
returns-else-sample-ge1 c = sample-none c.args.mpu.now c.args.timescale c.args.sample c.args.mpu.now.time.0 c.if-sample-ge1.false refl
