use Rattle.std.proofs.Common.{◌≡◌, ◌<◌, ◌^◌, ◌+◌, length, IsTrue}
use Rattle.std.specs.List.{All}
use Rattle.mmt_io.specs.Port.{OnlySends}
use Rattle.mmt_sig.specs.View.{messages_left}
use Rattle.mmt_naming.specs.Begun.{Begun}
use Rattle.mmt_recv.specs.Noting.{lines_of, at_place, untuned_messages}
use Rattle.mmt_recv.proofs.untuned.note_messages.Given as goal

abbrev pub invariant-loop-message : goal.invariant-loop-message
invariant-loop-message g l =
    let port = g.P.Port in
    record {
      sends : OnlySends port.tells port.left port.read_faults port.write_faults l.fn.port l.port;
      short : All (λ m. length m < 2 ^ 31) (messages_left l.message-iterator);
      numbers : l.number + length (messages_left l.message-iterator) ≡ length (messages_left l.messages);
      begun : IsTrue (port.tells l.fn.port) → Begun (port.history l.fn.port) (port.history l.port) (lines_of (at_place l.place (untuned_messages l.bound 0 (messages_left l.messages)))) (lines_of (at_place l.place (untuned_messages l.bound l.number (messages_left l.message-iterator))));
    }
