use Rattle.std.proofs.Common.{◌≡◌, ◌+◌, ◌^◌, ◌<◌, ◌≤◌, length}
use Rattle.std.specs.Prelude.{IsTrue}
use Rattle.std.specs.List.{All}
use Rattle.mmt_io.specs.Port.{OnlySends}
use Rattle.mmt_runs.specs.Told.{IsTold}
use Rattle.mmt_sig.specs.View.{messages_left}
use Rattle.mmt_naming.specs.Findings.{findings_from}
use Rattle.mmt_naming.specs.Lines.{learned_by, lines_of}
use Rattle.mmt_naming.specs.Begun.{Begun}
use Rattle.mmt_naming.proofs.messages.take_messages.Given as goal

abbrev pub invariant-loop-message : goal.invariant-loop-message
invariant-loop-message g l =
    let port = g.P.Port in
    let of = findings_from l.fn.by.timescale l.fn.by.tuned in
    let now = l.fn.by.clock.0 in
    record {
      sends : OnlySends port.tells port.left port.read_faults port.write_faults l.fn.port l.port;
      count : l.number + length (messages_left l.message-iterator) < 2 ^ 32;
      within : All (λ m. length m < 2 ^ 31) (messages_left l.message-iterator);
      told : IsTold l.runs l.fn.pool.kept l.names;
      names : learned_by now l.names (of l.number (messages_left l.message-iterator)) ≡ learned_by now l.fn.names (of 0 (messages_left l.fn.messages));
      begun : IsTrue (port.tells l.fn.port) → Begun (port.history l.fn.port) (port.history l.port) (lines_of l.fn.by.place now l.fn.names.entries (of 0 (messages_left l.fn.messages))) (lines_of l.fn.by.place now l.names.entries (of l.number (messages_left l.message-iterator)));
    }
