use Rattle.std.proofs.Common.{◌≡◌, take}
use Rattle.mmt_expect.specs.Reaches.{AreReaches}
use Rattle.mmt_model.specs.Delivery.{newest_first}
use Rattle.mmt_model.specs.Survival.{latest}
use Rattle.mmt_expect.proofs.reaching.take_list.Given as goal

abbrev pub invariant-loop-i : goal.invariant-loop-i
invariant-loop-i l = record {
  are : AreReaches l.packets l.delay (newest_first (take l.i l.list)) l.reaches;
  greatest : l.greatest ≡ latest l.packets 0 (newest_first (take l.i l.list));
}
