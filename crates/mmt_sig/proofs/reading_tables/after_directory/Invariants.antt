use Rattle.std.proofs.Common.{◌≡◌, ◌+◌, ◌*◌, length}
use Rattle.mmt_lists.specs.Counted.{counted}
use Rattle.mmt_sig.specs.MessageReading.{listed_at}
use Rattle.mmt_sig.proofs.reading_tables.after_directory.Given as goal

abbrev pub invariant-loop-left : goal.invariant-loop-left
invariant-loop-left l = record {
  stop : (counted l.left listed_at l.at l.rest).stop ≡ (counted l.count listed_at 8 l.bytes).stop;
  rest : (counted l.left listed_at l.at l.rest).rest ≡ (counted l.count listed_at 8 l.bytes).rest;
  places : l.at + length l.rest ≡ 8 + length l.bytes;
  entries : length l.rest + 4 * l.count ≡ length l.bytes + 4 * l.left;
}

abbrev pub decreases-loop-left : goal.decreases-loop-left
decreases-loop-left l = l.left
