use Rattle.std.proofs.Common.{◌-◌, length}
use Rattle.mmt_plan.specs.Plan.{Stays}
use Rattle.mmt_plan.proofs.Fronts.{HasFront}
use Rattle.mmt_desk.proofs.loading.load_by.Given as goal

abbrev pub invariant-pieces : goal.invariant-pieces
invariant-pieces g l = record {
  shelf : Stays (g.H.Shelf.tells l.fn.shelf) (g.H.Shelf.tells l.shelf) (g.H.Shelf.file l.fn.shelf) (g.H.Shelf.file l.shelf) (g.H.Shelf.faults l.fn.shelf) (g.H.Shelf.faults l.shelf);
  front : HasFront (g.H.Shelf.tells l.fn.shelf) (g.H.Shelf.file l.fn.shelf l.name) l.bytes.items;
}

abbrev pub decreases-pieces : goal.decreases-pieces
decreases-pieces g l = 16777217 - length l.bytes.items
