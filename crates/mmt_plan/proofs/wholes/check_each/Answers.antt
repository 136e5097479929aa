use Rattle.std.proofs.Common.{◌≡◌, Ok, Err, refl, subst, arith}
use Rattle.mmt_plan.specs.Reading.{IsAnswer}
use Rattle.mmt_plan.proofs.Passes.{begins, goes_on, stops_so, ends}
use Rattle.mmt_plan.proofs.wholes.check_each.Goals as goal

pub loop-item-init : goal.loop-item-init
loop-item-init g c = record { passed = begins (g.T.Checked.check_of c.args.assets.now) c.args.items.now; counted = refl }

pub returns-in-Err : goal.returns-in-Err
returns-in-Err g c =
    stops_so (g.T.Checked.check_of c.args.assets.now) c.args.items.now c.loop-item.item-index c.item-item.result c.in-Err.end c.loop-item.invariant.passed c.loop-item-test.true c.item-item.is
    (subst (λ n. IsAnswer (g.T.Checked.check_of c.args.assets.now n c.item-item.result) (Err c.in-Err.end)) c.loop-item.invariant.counted c.in-Err.ensures)

pub loop-item-preserved : goal.loop-item-preserved
loop-item-preserved g c = record {
  passed = goes_on (g.T.Checked.check_of c.args.assets.now) c.args.items.now c.loop-item.item-index c.item-item.result c.loop-item.invariant.passed c.loop-item-test.true c.item-item.is
      (subst (λ n. g.T.Checked.check_of c.args.assets.now n c.item-item.result ≡ Ok tt) c.loop-item.invariant.counted c.in-Ok.ensures);
  counted = omega arith;
}

pub returns : goal.returns
returns g c = ends (g.T.Checked.check_of c.args.assets.now) c.args.items.now c.loop-item.item-index c.loop-item.invariant.passed c.loop-item-test.false
