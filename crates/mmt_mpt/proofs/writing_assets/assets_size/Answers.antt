use Rattle.std.proofs.Common.{map, arith}
use Rattle.std.proofs.lemmas.List.{length-map}
use Rattle.mmt_mpt.specs.Asset.{AssetFits, asset_bytes}
use Rattle.mmt_mpt.specs.Owned.{owned_asset}
use Rattle.mmt_mpt.proofs.Sizes.{one_fits, left_long, assets_most}
use Rattle.mmt_mpt.proofs.writing_assets.assets_size.Goals as goal

pub asset_size-size-requires : goal.asset_size-size-requires
asset_size-size-requires c = one_fits AssetFits owned_asset c.args.assets.now c.loop-asset.asset-index c.asset-item.result c.loop-asset-test.true c.asset-item.is c.requires.fit

pub overflow_add-size : goal.overflow_add-size
overflow_add-size c = omega (arith, left_long asset_bytes owned_asset c.args.assets.now c.loop-asset.asset-index c.asset-item.result c.loop-asset-test.true c.asset-item.is, assets_most (map owned_asset c.args.assets.now) c.requires.fit, length-map c.args.assets.now owned_asset, c.asset_size-size.ensures, c.loop-asset.invariant, c.requires.count)
