use Rattle.std.proofs.Common.{◌≡◌, Ok, Err, IsTrue, List, ℕ, Option, subst, arith}
use Rattle.mmt_plan.specs.Files.{check_mpu, IsFilesAnswer}
use Rattle.mmt_plan.proofs.Fronts.{stays_on}
use Rattle.mmt_plan.proofs.Passes.{files_go_on, files_stop, files_end, before}
use Rattle.mmt_plan.proofs.checks.mpus.Goals as goal

pub returns-in-Err-clause-mpus : goal.returns-in-Err-clause-mpus
returns-in-Err-clause-mpus g c =
    files_stop (g.H.Shelf.tells c.args.shelf.now) (check_mpu (g.H.Shelf.file c.args.shelf.now c.args.name.now) c.args.spot) c.args.mpus.now c.loop-item.item-index c.item-item.result c.in-Err.end c.loop-item.invariant.passed c.loop-item-test.true c.item-item.is
    (before (λ (file : List ℕ → Option (List ℕ)). IsFilesAnswer (check_mpu (file c.args.name.now) c.args.spot c.loop-item.item-index c.item-item.result) (Err c.in-Err.end)) c.loop-item.invariant.shelf
    (subst (λ n. IsTrue (g.H.Shelf.tells c.loop-item.shelf) → IsFilesAnswer (check_mpu (g.H.Shelf.file c.loop-item.shelf c.args.name.now) c.args.spot n c.item-item.result) (Err c.in-Err.end)) c.loop-item.invariant.counted c.in-Err.ensures.mpu))

pub loop-item-preserved : goal.loop-item-preserved
loop-item-preserved g c = record {
  shelf = stays_on c.loop-item.invariant.shelf c.in-Ok.ensures.shelf.tells c.in-Ok.ensures.shelf.files c.in-Ok.ensures.shelf.later;
  passed =
      files_go_on (g.H.Shelf.tells c.args.shelf.now) (check_mpu (g.H.Shelf.file c.args.shelf.now c.args.name.now) c.args.spot) c.args.mpus.now c.loop-item.item-index c.item-item.result c.loop-item.invariant.passed c.loop-item-test.true c.item-item.is
      (before (λ (file : List ℕ → Option (List ℕ)). check_mpu (file c.args.name.now) c.args.spot c.loop-item.item-index c.item-item.result ≡ Ok tt) c.loop-item.invariant.shelf
      (subst (λ n. IsTrue (g.H.Shelf.tells c.loop-item.shelf) → check_mpu (g.H.Shelf.file c.loop-item.shelf c.args.name.now) c.args.spot n c.item-item.result ≡ Ok tt) c.loop-item.invariant.counted c.in-Ok.ensures.mpu));
  counted = omega arith;
}

pub returns-clause-mpus : goal.returns-clause-mpus
returns-clause-mpus g c = files_end (g.H.Shelf.tells c.args.shelf.now) (check_mpu (g.H.Shelf.file c.args.shelf.now c.args.name.now) c.args.spot) c.args.mpus.now c.loop-item.item-index c.loop-item.invariant.passed c.loop-item-test.false
