use Rattle.std.proofs.Common.{◌≡◌, ◌+◌, ◌≤◌, ◌++◌, length, map, drop}
use Rattle.std.specs.Prelude.{vec_len, vec_capacity}
use Rattle.std.specs.List.{flat_map}
use Rattle.mmt_mpt.specs.Asset.{asset_bytes}
use Rattle.mmt_mpt.specs.Owned.{owned_asset}
use Rattle.mmt_mpt.proofs.writing_assets.put_assets.Given as goal

abbrev pub invariant-loop-asset : goal.invariant-loop-asset
invariant-loop-asset l = record {
  items : l.out.items ++ flat_map asset_bytes (map owned_asset (drop l.asset-index l.assets)) ≡ l.fn.out.items ++ flat_map asset_bytes (map owned_asset l.assets);
  room : vec_len l.out + length (flat_map asset_bytes (map owned_asset (drop l.asset-index l.assets))) ≤ vec_capacity l.out;
  capacity : vec_capacity l.fn.out ≤ vec_capacity l.out;
}
