use Rattle.std.proofs.Common.{◌≡◌, ℕ, ◌*◌, ◌≤◌, List, take}
use Rattle.std.specs.List.{All}
use Rattle.mmt_model.specs.Delivery.{newest_first}
use Rattle.mmt_tlv.specs.Framing.{Fits, Packet}
use Rattle.mmt_trial.specs.Given.{AreGiven, WasGiven}
use Rattle.mmt_trial.proofs.listening.listen.Given as goal

abbrev pub invariant-loop-place : goal.invariant-loop-place
invariant-loop-place l = record {
  config : l.listening.receiver.config ≡ l.fn.config;
  at : l.listening.at ≤ 65539 * l.place-index;
  given : (packets : List Packet) → All Fits packets → AreGiven l.sent l.list packets → WasGiven l.listening (newest_first (take l.place-index packets));
}
