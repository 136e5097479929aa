use Rattle.std.proofs.Common.{◌≡◌}
use Rattle.mmt_plan.proofs.Repeats.{HasSeen}
use Rattle.mmt_plan.proofs.twice.first_repeat.Given as goal

abbrev pub invariant-loop-item : goal.invariant-loop-item
invariant-loop-item g l = record {
  seen : HasSeen g.T.Numbered.number_of l.items l.seen.keys l.item-index;
  counted : l.place ≡ l.item-index;
}
