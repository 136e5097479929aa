use Rattle.std.proofs.Common.{map}
use Rattle.mmt_mpt.specs.AssetView.{view_placed}
use Rattle.mmt_mpt.specs.AssetsLeft.{assets_left}
use Rattle.mmt_mpt.specs.Owned.{owned_asset, placeless}
use Rattle.mmt_mpt.proofs.Moved.{moved}
use Rattle.mmt_mpt.proofs.owning.own_assets.Goals as goal

pub loop-asset-preserved : goal.loop-asset-preserved
loop-asset-preserved c = rw c.in_ok-push.ensures.pushed (
    moved owned_asset c.loop-asset.owned _ (placeless (view_placed c.in-Some.asset)) (map placeless (assets_left c.next.new.self)) (map placeless (assets_left c.args.assets))
    (rw c.in-Some.ensures.steps at c.loop-asset.invariant)
    c.in_ok-copy.ensures)
