use Rattle.std.proofs.Common.{◌≡◌, ◌+◌, ◌≤◌, length}
use Rattle.mmt_lists.specs.Counted.{counted}
use Rattle.mmt_sig.specs.MessageReading.{table_at}
use Rattle.mmt_sig.proofs.reading_tables.after_tables.Given as goal

abbrev pub invariant-loop-left : goal.invariant-loop-left
invariant-loop-left l = record {
  stop : (counted l.left table_at l.at l.rest).stop ≡ (counted l.count table_at l.from l.bytes).stop;
  rest : (counted l.left table_at l.at l.rest).rest ≡ (counted l.count table_at l.from l.bytes).rest;
  places : l.at + length l.rest ≡ l.from + length l.bytes;
  shorter : length l.rest ≤ length l.bytes;
}

abbrev pub decreases-loop-left : goal.decreases-loop-left
decreases-loop-left l = l.left
