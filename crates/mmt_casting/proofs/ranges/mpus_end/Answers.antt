use Rattle.std.proofs.Common.{◌+◌, ◌∙◌}
use Rattle.mmt_cast.specs.Placing.{all_mpus, mpus_of}
use Rattle.mmt_cast.specs.Refusing.{refusal_of_mpus}
use Rattle.mmt_casting.proofs.FirstOut.{assets-at, assets-first, assets-past, ends-found, ends-none, ends-passed, refusal_of_assets}
use Rattle.mmt_casting.proofs.ranges.mpus_end.Goals as goal

pub loop-a-init : goal.loop-a-init
loop-a-init c = assets-first c.args.programme.now c.as_slice-assets.result.now c.as_slice-assets.ensures

pub returns-then-is_some : goal.returns-then-is_some
returns-then-is_some c =
    ends-found (refusal_of_mpus (all_mpus c.args.programme.now)) (refusal_of_mpus (mpus_of c.loop-a.a c.index-assets-a.result)) (refusal_of_assets (c.loop-a.a + 1) c.as_slice-assets.result.now) c.asset_end-end.result
    c.asset_end-end.ensures c.if-is_some.ensures (c.loop-a.invariant ∙ assets-at c.loop-a.a c.as_slice-assets.result.now c.index-assets-a.result c.loop-a-test.true c.index-assets-a.is)

pub loop-a-preserved : goal.loop-a-preserved
loop-a-preserved c =
    ends-passed (refusal_of_mpus (all_mpus c.args.programme.now)) (refusal_of_mpus (mpus_of c.loop-a.a c.index-assets-a.result)) (refusal_of_assets (c.loop-a.a + 1) c.as_slice-assets.result.now) c.asset_end-end.result
    c.asset_end-end.ensures c.if-is_some.ensures (c.loop-a.invariant ∙ assets-at c.loop-a.a c.as_slice-assets.result.now c.index-assets-a.result c.loop-a-test.true c.index-assets-a.is)

pub returns : goal.returns
returns c = ends-none (refusal_of_mpus (all_mpus c.args.programme.now)) (c.loop-a.invariant ∙ assets-past c.loop-a.a c.as_slice-assets.result.now c.loop-a-test.false)
