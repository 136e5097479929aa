use Rattle.std.proofs.Common.{IsTrue, ℕ, ◌<◌, get_or}
use Rattle.mmt_model.specs.Survival.{no_packet}
use Rattle.mmt_plan.specs.Plan.{Stays}
use Rattle.mmt_send.specs.Files.{files_on}
use Rattle.mmt_send.specs.Held.{AreHeld}
use Rattle.mmt_send.specs.Writes.{IsReady, IsUnread}
use Rattle.mmt_send.proofs.WholeStream.{HasSent}
use Rattle.mmt_send.proofs.sending.send.Given as goal

abbrev pub invariant-loop-place : goal.invariant-loop-place
invariant-loop-place g l = record {
  ready : IsReady l.job.programme.now l.place l.sender;
  sent : IsTrue (g.H.Shelf.tells l.fn.shelf) → IsTrue (g.P.Port.tells l.fn.port) → HasSent l.job.programme.now l.job.cast.now (files_on (g.H.Shelf.file l.fn.shelf) l.job.programme.now) l.place (g.P.Port.history l.fn.port) (g.P.Port.history l.port);
  held : IsTrue (g.H.Shelf.tells l.fn.shelf) → (n : ℕ) → n < l.place → AreHeld l.job.programme.now (files_on (g.H.Shelf.file l.fn.shelf) l.job.programme.now) (get_or l.job.cast.now.packets n no_packet).carries;
  shelf : Stays (g.H.Shelf.tells l.fn.shelf) (g.H.Shelf.tells l.shelf) (g.H.Shelf.file l.fn.shelf) (g.H.Shelf.file l.shelf) (g.H.Shelf.faults l.fn.shelf) (g.H.Shelf.faults l.shelf);
  port : IsUnread (g.P.Port.tells l.fn.port) (g.P.Port.tells l.port) (g.P.Port.left l.fn.port) (g.P.Port.left l.port) (g.P.Port.read_faults l.fn.port) (g.P.Port.read_faults l.port) (g.P.Port.write_faults l.fn.port) (g.P.Port.write_faults l.port);
}
