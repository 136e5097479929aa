use Rattle.std.proofs.Common.{refl, inr, subst, sym, option_map}
use Rattle.std.specs.List.Sorted.{IsStrictlySortedBy}
use Rattle.mmt_runs.specs.Index.{IsIn, order}
use Rattle.mmt_runs.specs.Lending.{the_presentation}
use Rattle.mmt_runs.specs.Order.{order_now}
use Rattle.mmt_runs.proofs.DueOrder.{sorted-rest}
use Rattle.mmt_runs.proofs.Sought.{begun_walk, tried, left_past, left_next, left_none}
use Rattle.mmt_runs.proofs.seeking.least_by_order.Goals as goal

pub loop-due-init : goal.loop-due-init
loop-due-init c = record {
  named = tt;
  least = λ q h d a m t. inr (subst (λ ds. IsIn ds q) (sym c.into_iter-due-iterator.ensures.into_iter_gives) (begun_walk c.args.range.now.names.now c.args.pool.now.kept (order_now c.args.range.now.after) c.args.range.now.from.0 c.args.range.now.to.0 c.args.index.now.keys c.sought_part-due-items.result q c.sought_part-due-items.ensures h d a m t));
  ordered = subst (IsStrictlySortedBy order) (sym c.into_iter-due-iterator.ensures.into_iter_gives) c.sought_part-due-items.ensures.ordered;
}

pub returns-then-is_past-clause-named : goal.returns-then-is_past-clause-named
returns-then-is_past-clause-named c = c.loop-due.invariant.named

pub returns-then-is_past-clause-least : goal.returns-then-is_past-clause-least
returns-then-is_past-clause-least c = λ q h.
    let i = c.loop-due.invariant in
    left_past _ c.args.range.now.names.now c.args.pool.now.kept (option_map the_presentation c.loop-due.best) c.in-Some.due.now q c.next.new.self c.loop-due.due-iterator c.in-Some.ensures.steps i.ordered (c.if-is_past.ensures refl) (i.least q h)

pub loop-due-preserved : goal.loop-due-preserved
loop-due-preserved c =
    let i = c.loop-due.invariant in
    let t = tried c.args.range.now.names.now c.args.pool.now.kept (order_now c.args.range.now.after) c.args.range.now.from.0 c.args.range.now.to.0 (option_map the_presentation c.loop-due.best) (option_map the_presentation c.best_at-best.result) c.in-Some.due.now i.named c.best_at-best.ensures in
    record {
      named = t.named;
      least = λ q h. left_next _ c.args.range.now.names.now c.args.pool.now.kept (option_map the_presentation c.loop-due.best) (option_map the_presentation c.best_at-best.result) c.in-Some.due.now q c.next.new.self c.loop-due.due-iterator c.in-Some.ensures.steps t (i.least q h);
      ordered = sorted-rest c.in-Some.due.now c.next.new.self (subst (IsStrictlySortedBy order) c.in-Some.ensures.steps i.ordered);
    }

pub returns-clause-named : goal.returns-clause-named
returns-clause-named c = c.loop-due.invariant.named

pub returns-clause-least : goal.returns-clause-least
returns-clause-least c = λ q h. left_none _ c.args.range.now.names.now c.args.pool.now.kept (option_map the_presentation c.loop-due.best) q c.loop-due.due-iterator c.in-None.ensures.steps.0 (c.loop-due.invariant.least q h)
