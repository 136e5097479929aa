-- What contracts see of the iterator over assets.
use Rattle.std.specs.Prelude.{List}
use Rattle.mmt_mpt.specs.declared.assets.Assets.{Assets}
use Rattle.mmt_mpt.specs.Asset.{PlacedAsset}
use Rattle.mmt_mpt.specs.AssetReading.{assets_from}

-- the assets that an iterator has yet to give
abbrev pub assets_left : Assets → List PlacedAsset
assets_left s = assets_from s.left s.at s.rest.now
