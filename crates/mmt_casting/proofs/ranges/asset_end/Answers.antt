use Rattle.mmt_casting.proofs.FirstOut.{asset-ends, asset-found, asset-passed, from-first}
use Rattle.mmt_casting.proofs.ranges.asset_end.Goals as goal

pub loop-b-init : goal.loop-b-init
loop-b-init c = from-first c.args.a c.args.asset.now

pub returns-in-Some : goal.returns-in-Some
returns-in-Some c =
    asset-found c.args.a c.args.asset.now c.as_slice-mpus.result.now c.loop-b.b c.in-Some.au c.index-mpus-b.result c.as_slice-mpus.ensures c.loop-b-test.true c.index-mpus-b.is c.in-Some.ensures c.loop-b.invariant

pub loop-b-preserved : goal.loop-b-preserved
loop-b-preserved c =
    asset-passed c.args.a c.args.asset.now c.as_slice-mpus.result.now c.loop-b.b c.index-mpus-b.result c.as_slice-mpus.ensures c.loop-b-test.true c.index-mpus-b.is c.in_default.ensures c.loop-b.invariant

pub returns : goal.returns
returns c = asset-ends c.args.a c.args.asset.now c.as_slice-mpus.result.now c.loop-b.b c.as_slice-mpus.ensures c.loop-b-test.false c.loop-b.invariant
