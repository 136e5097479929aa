use Rattle.std.proofs.Common.{◌≡◌, IsTrue}
use Rattle.mmt_plan.specs.Files.{check_asset}
use Rattle.mmt_plan.specs.Plan.{Stays}
use Rattle.mmt_plan.proofs.Passes.{HasPassed}
use Rattle.mmt_plan.proofs.checks.check_files.Given as goal

abbrev pub invariant-loop-item : goal.invariant-loop-item
invariant-loop-item g l = record {
  shelf : Stays (g.H.Shelf.tells l.fn.shelf) (g.H.Shelf.tells l.shelf) (g.H.Shelf.file l.fn.shelf) (g.H.Shelf.file l.shelf) (g.H.Shelf.faults l.fn.shelf) (g.H.Shelf.faults l.shelf);
  passed : IsTrue (g.H.Shelf.tells l.fn.shelf) → HasPassed (check_asset (g.H.Shelf.file l.fn.shelf) l.programme.files) l.programme.assets l.item-index;
  counted : l.number ≡ l.item-index;
}
