use Rattle.std.proofs.Common.{◌-◌, ◌≡◌, ◌≤◌, length, drop, IsTrue}
use Rattle.mmt_plan.specs.Plan.{Stays}
use Rattle.mmt_send.specs.Files.{bytes_in}
use Rattle.mmt_send.proofs.files.held.Given as goal

abbrev pub invariant-loop-got : goal.invariant-loop-got
invariant-loop-got g l = record {
  room : 1 ≤ length l.buf;
  whole : l.length ≡ l.source.unit.now.length;
  below : l.got ≤ l.length;
  shelf : Stays (g.H.Shelf.tells l.fn.shelf) (g.H.Shelf.tells l.shelf) (g.H.Shelf.file l.fn.shelf) (g.H.Shelf.file l.shelf) (g.H.Shelf.faults l.fn.shelf) (g.H.Shelf.faults l.shelf);
  there : IsTrue (g.H.Shelf.tells l.fn.shelf) → l.got ≤ length (drop l.source.unit.now.from (bytes_in (g.H.Shelf.file l.fn.shelf l.source.name.now)));
}

abbrev pub decreases-loop-got : goal.decreases-loop-got
decreases-loop-got g l = l.length - l.got
