use Rattle.std.proofs.Common.{◌≡◌, ◌+◌, ◌-◌, ◌≤◌, length}
use Rattle.mmt_lists.specs.Counted.{counted}
use Rattle.mmt_mpt.specs.AssetReading.{asset_at}
use Rattle.mmt_mpt.proofs.reading_mpt.after_assets.Given as goal

abbrev pub invariant-loop-number : goal.invariant-loop-number
invariant-loop-number l = record {
  stop : (counted (l.count - l.number) asset_at l.at l.rest).stop ≡ (counted l.count asset_at l.from l.bytes).stop;
  rest : (counted (l.count - l.number) asset_at l.at l.rest).rest ≡ (counted l.count asset_at l.from l.bytes).rest;
  counts : l.number + length (counted (l.count - l.number) asset_at l.at l.rest).items ≡ length (counted l.count asset_at l.from l.bytes).items;
  places : l.at + length l.rest ≡ l.from + length l.bytes;
  shorter : length l.rest ≤ length l.bytes;
}

abbrev pub decreases-loop-number : goal.decreases-loop-number
decreases-loop-number l = l.count - l.number
