use Rattle.std.proofs.Common.{◌≡◌, ◌+◌, ◌≤◌, length}
use Rattle.mmt_lists.specs.Counted.{counted}
use Rattle.mmt_mpt.specs.AssetReading.{place_at}
use Rattle.mmt_mpt.proofs.reading_assets.after_places.Given as goal

abbrev pub invariant-loop-left : goal.invariant-loop-left
invariant-loop-left l = record {
  stop : (counted l.left place_at l.at l.rest).stop ≡ (counted l.count place_at l.from l.bytes).stop;
  rest : (counted l.left place_at l.at l.rest).rest ≡ (counted l.count place_at l.from l.bytes).rest;
  places : l.at + length l.rest ≡ l.from + length l.bytes;
  shorter : length l.rest ≤ length l.bytes;
}

abbrev pub decreases-loop-left : goal.decreases-loop-left
decreases-loop-left l = l.left
