use Rattle.std.proofs.Common.{◌≡◌, Ok, Err, IsTrue, get_or, List, ℕ, Option, subst, arith}
use Rattle.std.proofs.lemmas.List.{get_or_default}
use Rattle.mmt_model.specs.declared.keys.UnitKey.TheVariants.{Timed}
use Rattle.mmt_model.specs.declared.programmes.Unit as model
use Rattle.mmt_plan.specs.Files.{check_unit, IsFilesAnswer}
use Rattle.mmt_plan.proofs.Fronts.{stays_on}
use Rattle.mmt_plan.proofs.Passes.{files_go_on, files_stop, files_end, before}
use Rattle.mmt_plan.proofs.checks.units.Goals as goal

-- what a read past the end of a list of units would give
abbrev no_unit : model.Unit
no_unit = record { at = record { 0 = 0 }; from = 0; length = 0; key = Timed 0 0 0; priority = 0; dependency = 0 }

pub returns-in-Err-clause-units : goal.returns-in-Err-clause-units
returns-in-Err-clause-units g c =
    let x = get_or c.args.units.now c.loop-item.item-index no_unit in
    files_stop (g.H.Shelf.tells c.args.shelf.now) (check_unit (g.H.Shelf.file c.args.shelf.now c.args.name.now) c.args.spot) c.args.units.now c.loop-item.item-index x c.in-Err.end c.loop-item.invariant.passed c.loop-item-test.true
    (get_or_default c.args.units.now c.loop-item.item-index no_unit x c.loop-item-test.true)
    (before (λ (file : List ℕ → Option (List ℕ)). IsFilesAnswer (check_unit (file c.args.name.now) c.args.spot c.loop-item.item-index x) (Err c.in-Err.end)) c.loop-item.invariant.shelf
    (subst (λ n. IsTrue (g.H.Shelf.tells c.loop-item.shelf) → IsFilesAnswer (check_unit (g.H.Shelf.file c.loop-item.shelf c.args.name.now) c.args.spot n x) (Err c.in-Err.end)) c.loop-item.invariant.counted c.in-Err.ensures.unit))

pub loop-item-preserved : goal.loop-item-preserved
loop-item-preserved g c = record {
  shelf = stays_on c.loop-item.invariant.shelf c.in-Ok.ensures.shelf.tells c.in-Ok.ensures.shelf.files c.in-Ok.ensures.shelf.later;
  passed =
      let x = get_or c.args.units.now c.loop-item.item-index no_unit in
      files_go_on (g.H.Shelf.tells c.args.shelf.now) (check_unit (g.H.Shelf.file c.args.shelf.now c.args.name.now) c.args.spot) c.args.units.now c.loop-item.item-index x c.loop-item.invariant.passed c.loop-item-test.true
      (get_or_default c.args.units.now c.loop-item.item-index no_unit x c.loop-item-test.true)
      (before (λ (file : List ℕ → Option (List ℕ)). check_unit (file c.args.name.now) c.args.spot c.loop-item.item-index x ≡ Ok tt) c.loop-item.invariant.shelf
      (subst (λ n. IsTrue (g.H.Shelf.tells c.loop-item.shelf) → check_unit (g.H.Shelf.file c.loop-item.shelf c.args.name.now) c.args.spot n x ≡ Ok tt) c.loop-item.invariant.counted c.in-Ok.ensures.unit));
  counted = omega arith;
}

pub returns-clause-units : goal.returns-clause-units
returns-clause-units g c = files_end (g.H.Shelf.tells c.args.shelf.now) (check_unit (g.H.Shelf.file c.args.shelf.now c.args.name.now) c.args.spot) c.args.units.now c.loop-item.item-index c.loop-item.invariant.passed c.loop-item-test.false
