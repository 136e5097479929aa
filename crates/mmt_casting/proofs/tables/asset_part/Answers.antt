use Rattle.std.proofs.Common.{◌≡◌, arith, ap}
use Rattle.mmt_casting.proofs.OwnNames.{asset-read, bytes-end, bytes-here, bytes-over, mpu-read, name-there, own-end, own-here, own-over, part-is}
use Rattle.mmt_casting.specs.Ends.{extended_of_mpu}
use Rattle.mmt_casting.specs.Places.{asset_at}
use Rattle.mmt_casting.proofs.tables.asset_part.Goals as goal

pub returns-then-name-a-clause-length : goal.returns-then-name-a-clause-length
returns-then-name-a-clause-length c =
    let x : c.index-as_slice-a.result ≡ asset_at c.args.programme.now c.args.a = asset-read c.args.programme.now c.as_slice.result.now c.args.a c.index-as_slice-a.result c.as_slice.ensures c.requires.inside c.index-as_slice-a.is in
    part-is c.args.programme.now c.args.a c.loop-i.named c.loop-i.extended c.part_of.result.length _ c.index-as_slice-a.result x
    (omega (arith, c.loop-i.invariant.count, own-over c.args.a c.loop-i.i c.args.listed.now _ c.loop-i-test.true c.if-name-a.true))
    (omega (arith, c.loop-i.invariant.sum, bytes-over c.args.a c.loop-i.i (asset_at c.args.programme.now c.args.a) c.args.listed.now _ c.loop-i-test.true c.if-name-a.true)) c.part_of.ensures.length

pub returns-then-name-a-clause-end : goal.returns-then-name-a-clause-end
returns-then-name-a-clause-end c =
    omega (arith, c.loop-i.invariant.count, c.loop-i.invariant.from, own-over c.args.a c.loop-i.i c.args.listed.now _ c.loop-i-test.true c.if-name-a.true, c.part_of.ensures.end)

pub loop-i-preserved : goal.loop-i-preserved
loop-i-preserved c =
    let x : c.index-as_slice-a.result ≡ asset_at c.args.programme.now c.args.a = asset-read c.args.programme.now c.as_slice.result.now c.args.a c.index-as_slice-a.result c.as_slice.ensures c.requires.inside c.index-as_slice-a.is in
    let l = name-there c.args.programme.now c.args.listed.now c.args.a c.loop-i.i _ c.requires.names c.loop-i-test.true c.if-name-a.false in
    let m = mpu-read (asset_at c.args.programme.now c.args.a) c.index-as_slice-a.result c.as_slice-in-loop-i.result.now _ c.index-as_slice-name.result x c.as_slice-in-loop-i.ensures l c.index-as_slice-name.is in
    record {
      from = omega (arith, c.loop-i.invariant.from);
      count = omega (arith, c.loop-i.invariant.count, own-here c.args.a c.loop-i.i c.args.listed.now _ c.loop-i-test.true c.if-name-a.false);
      sum = omega (
        arith,
        c.loop-i.invariant.sum,
        bytes-here c.args.a c.loop-i.i (asset_at c.args.programme.now c.args.a) c.args.listed.now _ c.loop-i-test.true c.if-name-a.false,
        c.extended_length-extended.ensures.value,
        ap extended_of_mpu m,
      );
      short = omega (arith, c.loop-i.invariant.short, c.extended_length-extended.ensures.short);
    }

pub returns-clause-length : goal.returns-clause-length
returns-clause-length c =
    let x : c.index-as_slice-a.result ≡ asset_at c.args.programme.now c.args.a = asset-read c.args.programme.now c.as_slice.result.now c.args.a c.index-as_slice-a.result c.as_slice.ensures c.requires.inside c.index-as_slice-a.is in
    part-is c.args.programme.now c.args.a c.loop-i.named c.loop-i.extended c.part_of-2.result.length _ c.index-as_slice-a.result x
    (omega (arith, c.loop-i.invariant.count, own-end c.args.a c.loop-i.i c.args.listed.now c.loop-i-test.false))
    (omega (arith, c.loop-i.invariant.sum, bytes-end c.args.a c.loop-i.i (asset_at c.args.programme.now c.args.a) c.args.listed.now c.loop-i-test.false)) c.part_of-2.ensures.length

pub returns-clause-end : goal.returns-clause-end
returns-clause-end c =
    omega (arith, c.loop-i.invariant.count, c.loop-i.invariant.from, own-end c.args.a c.loop-i.i c.args.listed.now c.loop-i-test.false, c.part_of-2.ensures.end, c.loop-i-test.false, c.loop-i.auto.i-end, c.requires.first)
