use Rattle.std.proofs.Common.{◌≡◌, ◌+◌, length, map, drop}
use Rattle.std.specs.List.{flat_map}
use Rattle.mmt_mpt.specs.Asset.{asset_bytes}
use Rattle.mmt_mpt.specs.Owned.{owned_asset}
use Rattle.mmt_mpt.proofs.writing_assets.assets_size.Given as goal

abbrev pub invariant-loop-asset : goal.invariant-loop-asset
invariant-loop-asset l = l.size + length (flat_map asset_bytes (map owned_asset (drop l.asset-index l.assets))) ≡ length (flat_map asset_bytes (map owned_asset l.assets))
