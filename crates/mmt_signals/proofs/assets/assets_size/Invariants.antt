use Rattle.std.proofs.Common.{◌≡◌, ◌+◌, drop}
use Rattle.std.specs.List.{sum_by}
use Rattle.mmt_cast.specs.Placing.{map_from}
use Rattle.mmt_cast.specs.Tables.{asset_length}
use Rattle.mmt_signals.proofs.Runs.{IsRest}
use Rattle.mmt_signals.proofs.assets.assets_size.Given as goal

abbrev pub invariant-loop-place : goal.invariant-loop-place
invariant-loop-place l = record {
  size : l.size + sum_by (λ n. n) (map_from (asset_length l.names) l.place (drop l.place l.assets)) ≡ sum_by (λ n. n) (map_from (asset_length l.names) 0 l.assets);
  rest : IsRest l.names l.place l.rest;
}
