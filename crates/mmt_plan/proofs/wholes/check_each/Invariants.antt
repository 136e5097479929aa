use Rattle.std.proofs.Common.{◌≡◌}
use Rattle.mmt_plan.proofs.Passes.{HasPassed}
use Rattle.mmt_plan.proofs.wholes.check_each.Given as goal

abbrev pub invariant-loop-item : goal.invariant-loop-item
invariant-loop-item g l = record {
  passed : HasPassed (g.T.Checked.check_of l.assets) l.items l.item-index;
  counted : l.number ≡ l.item-index;
}
