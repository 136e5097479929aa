use Rattle.std.proofs.Common.{◌≡◌, ℕ, ◌+◌, ◌≤◌, List, length}
use Rattle.std.specs.Prelude.{IsTrue}
use Rattle.mmt_io.specs.History.{Event}
use Rattle.mmt_io.specs.Port.{OnlySends}
use Rattle.mmt_stream.specs.Driving.{Turn}
use Rattle.mmt_stream.proofs.Framings.{AreBytes}
use Rattle.mmt_stream.proofs.drive.serve.Given as goal

abbrev pub invariant-packets : goal.invariant-packets
invariant-packets g l =
    let port = g.P.Port in
    let consumer = g.C.Consumer in
    record {
      sends : OnlySends port.tells port.left port.read_faults port.write_faults l.fn.port l.port;
      size : l.cutter.place + length l.cutter.held + length l.rest ≡ l.fn.cutter.place + length l.fn.cutter.held + length l.fn.piece;
      bytes : AreBytes l.rest;
      same : consumer.meaning l.consumer ≡ consumer.meaning l.fn.consumer;
      turn : IsTrue (port.tells l.fn.port) → (limit : ℕ) (start : List Event) (left : List ℕ) →
          Turn (consumer.meaning l.fn.consumer) consumer.stands limit start (port.history l.fn.port) left (port.left l.fn.port) l.fn.piece l.fn.cutter l.fn.consumer (consumer.gathered l.fn.consumer) →
          Turn (consumer.meaning l.fn.consumer) consumer.stands limit start (port.history l.port) left (port.left l.port) l.rest l.cutter l.consumer (consumer.gathered l.consumer);
    }

abbrev pub decreases-packets : goal.decreases-packets
decreases-packets g l = length l.rest
