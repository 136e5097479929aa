use Rattle.std.proofs.Common.{◌≡◌, ◌+◌, ◌≤◌, ◌++◌, length, drop}
use Rattle.std.specs.Prelude.{vec_len, vec_capacity}
use Rattle.std.specs.List.{flat_map, sum_by}
use Rattle.mmt_cast.specs.Placing.{map_from}
use Rattle.mmt_cast.specs.SentTables.{sent_asset}
use Rattle.mmt_cast.specs.Tables.{asset_length}
use Rattle.mmt_mpt.specs.Asset.{asset_bytes}
use Rattle.mmt_signals.proofs.Runs.{IsRest}
use Rattle.mmt_signals.proofs.assets.put_assets.Given as goal

abbrev pub invariant-loop-place : goal.invariant-loop-place
invariant-loop-place l = record {
  items : l.out.items ++ flat_map asset_bytes (map_from (sent_asset l.names) l.place (drop l.place l.assets)) ≡ l.fn.out.items ++ flat_map asset_bytes (map_from (sent_asset l.names) 0 l.assets);
  room : vec_len l.out + length (flat_map asset_bytes (map_from (sent_asset l.names) l.place (drop l.place l.assets))) ≤ vec_capacity l.out;
  left : sum_by (λ n. n) (map_from (asset_length l.names) l.place (drop l.place l.assets)) ≤ 65535;
  rest : IsRest l.names l.place l.rest;
}
