use Rattle.std.proofs.Common.{◌≡◌, IsTrue}
use Rattle.mmt_plan.specs.Files.{check_unit}
use Rattle.mmt_plan.specs.Plan.{Stays}
use Rattle.mmt_plan.proofs.Passes.{HasPassed}
use Rattle.mmt_plan.proofs.checks.units.Given as goal

abbrev pub invariant-loop-item : goal.invariant-loop-item
invariant-loop-item g l = record {
  shelf : Stays (g.H.Shelf.tells l.fn.shelf) (g.H.Shelf.tells l.shelf) (g.H.Shelf.file l.fn.shelf) (g.H.Shelf.file l.shelf) (g.H.Shelf.faults l.fn.shelf) (g.H.Shelf.faults l.shelf);
  passed : IsTrue (g.H.Shelf.tells l.fn.shelf) → HasPassed (check_unit (g.H.Shelf.file l.fn.shelf l.name) l.spot) l.units l.item-index;
  counted : l.number ≡ l.item-index;
}
