-- How many assets an MPT has.
use Rattle.std.proofs.Common.{◌≡◌, ℕ, suc, ◌+◌, List, [], ◌∷◌, length, refl, ap}
use Rattle.mmt_mpt.specs.Asset.{AssetValue, asset_bytes, placed_assets}

-- each asset has its place
pub length_placed : (at : ℕ) (assets : List AssetValue) → length (placed_assets at assets) ≡ length assets
length_placed at [] = refl
length_placed at (a ∷ assets) = ap suc (length_placed (at + length (asset_bytes a)) assets)
