use Rattle.std.proofs.Common.{◌<◌, ◌≤◌, ◌+◌, length, get_or, arith}
use Rattle.mmt_frag.proofs.Fitting.{fitting-ends, fitting-goes_on, fitting-stops}
use Rattle.mmt_frag.proofs.cutting.fitting.Goals as goal

pub returns-then-need-room : goal.returns-then-need-room
returns-then-need-room c =
    let within : c.loop-length.length-index < length c.args.lengths.now = omega arith in
    let long : c.loop-length.room < 2 + c.args.header + get_or c.args.lengths.now c.loop-length.length-index 0 = omega arith in
    omega (arith, c.loop-length.invariant.0, fitting-stops c.args.header c.loop-length.room c.args.lengths.now c.loop-length.length-index within long)

pub loop-length-preserved : goal.loop-length-preserved
loop-length-preserved c =
    let within : c.loop-length.length-index < length c.args.lengths.now = omega arith in
    let short : 2 + c.args.header + get_or c.args.lengths.now c.loop-length.length-index 0 ≤ c.loop-length.room = omega arith in
    (omega (arith, c.loop-length.invariant.0, fitting-goes_on c.args.header c.loop-length.room c.args.lengths.now c.loop-length.length-index within short), omega (arith, c.loop-length.invariant.1, short))

pub returns : goal.returns
returns c =
    let past : length c.args.lengths.now ≤ c.loop-length.length-index = omega arith in
    omega (arith, c.loop-length.invariant.0, fitting-ends c.args.header c.loop-length.room c.args.lengths.now c.loop-length.length-index past)
