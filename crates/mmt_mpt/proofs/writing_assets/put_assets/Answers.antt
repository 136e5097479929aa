use Rattle.mmt_mpt.specs.Asset.{AssetFits}
use Rattle.mmt_mpt.specs.Owned.{owned_asset}
use Rattle.mmt_mpt.proofs.Sizes.{one_fits}
use Rattle.mmt_mpt.proofs.writing_assets.put_assets.Goals as goal

pub put_asset-requires-clause-fits : goal.put_asset-requires-clause-fits
put_asset-requires-clause-fits c = one_fits AssetFits owned_asset c.args.assets.now c.loop-asset.asset-index c.asset-item.result c.loop-asset-test.true c.asset-item.is c.requires.fit
