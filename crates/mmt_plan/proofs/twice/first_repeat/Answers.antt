use Rattle.std.proofs.Common.{Some, refl, ap, ◌∙◌, arith}
use Rattle.mmt_plan.proofs.Repeats.{begins, finds, goes_on, ends, stood, stood_not}
use Rattle.mmt_plan.proofs.twice.first_repeat.Goals as goal

pub loop-item-init : goal.loop-item-init
loop-item-init g c = record { seen = rw c.new-seen.ensures.empty (begins g.T.Numbered.number_of c.args.items.now); counted = refl }

pub returns-then-not-added : goal.returns-then-not-added
returns-then-not-added g c =
    ap Some c.loop-item.invariant.counted
    ∙ finds g.T.Numbered.number_of c.args.items.now c.loop-item.seen.keys c.loop-item.item-index c.item-item.result c.loop-item.invariant.seen c.loop-item-test.true c.item-item.is
    (rw c.number.ensures at (stood c.in-Ok.added.1 _ c.in-Ok.ensures.added c.if-not-added.true))

pub loop-item-preserved : goal.loop-item-preserved
loop-item-preserved g c = record {
  seen = goes_on g.T.Numbered.number_of c.args.items.now c.loop-item.seen.keys c.insert_full.new.self.keys c.loop-item.item-index c.item-item.result c.loop-item.invariant.seen c.loop-item-test.true c.item-item.is
      (rw c.number.ensures at (stood_not c.in-Ok.added.1 _ c.in-Ok.ensures.added c.if-not-added.false)) (rw c.number.ensures at c.in-Ok.ensures.keys);
  counted = omega arith;
}

pub returns : goal.returns
returns g c = ends g.T.Numbered.number_of c.args.items.now c.loop-item.seen.keys c.loop-item.item-index c.loop-item.invariant.seen c.loop-item-test.false
