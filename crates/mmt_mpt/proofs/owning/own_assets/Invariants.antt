use Rattle.std.proofs.Common.{◌≡◌, ◌++◌, map}
use Rattle.mmt_mpt.specs.AssetsLeft.{assets_left}
use Rattle.mmt_mpt.specs.Owned.{owned_asset, placeless}
use Rattle.mmt_mpt.proofs.owning.own_assets.Given as goal

abbrev pub invariant-loop-asset : goal.invariant-loop-asset
invariant-loop-asset l = map owned_asset l.owned ++ map placeless (assets_left l.asset-iterator) ≡ map placeless (assets_left l.fn.assets)
