use Rattle.std.proofs.Common.{◌≡◌, ◌+◌, ◌≤◌, length}
use Rattle.mmt_fields.specs.Items.{all_items}
use Rattle.mmt_sig.specs.PayloadReading.{message_at}
use Rattle.mmt_sig.proofs.reading.count_messages.Given as goal

abbrev pub invariant-loop-rest : goal.invariant-loop-rest
invariant-loop-rest l = record {
  stop : (all_items (message_at l.long) l.place l.rest).stop ≡ (all_items (message_at l.long) 2 l.bytes).stop;
  messages : l.count + length (all_items (message_at l.long) l.place l.rest).items ≡ length (all_items (message_at l.long) 2 l.bytes).items;
  places : l.place + length l.rest ≡ 2 + length l.bytes;
  few : l.count + length l.rest ≤ length l.bytes;
}

abbrev pub decreases-loop-rest : goal.decreases-loop-rest
decreases-loop-rest l = length l.rest
