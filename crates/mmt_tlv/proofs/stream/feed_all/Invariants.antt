use Rattle.std.proofs.Common.{◌≡◌, ℕ, ◌+◌, List, length}
use Rattle.mmt_tlv.specs.Frames.{Cuts}
use Rattle.mmt_tlv.proofs.stream.feed_all.Given as goal

abbrev pub invariant-packets : goal.invariant-packets
invariant-packets l = record {
  size : l.cutter.place + length l.cutter.held + length l.rest ≡ l.fn.cutter.place + length l.fn.cutter.held + length l.fn.piece;
  cut : (stream : List ℕ) → Cuts stream l.fn.piece l.fn.cutter l.fn.spans.items → Cuts stream l.rest l.cutter l.spans.items;
}

abbrev pub decreases-packets : goal.decreases-packets
decreases-packets l = length l.rest
