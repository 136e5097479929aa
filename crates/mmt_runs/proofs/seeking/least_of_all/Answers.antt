use Rattle.std.proofs.Common.{◌≡◌, inl, inr, ⊎_elim, subst, sym, option_map, ℕ, Some}
use Rattle.mmt_pool.specs.declared.types.Span.{Span}
use Rattle.mmt_runs.specs.Choosing.{is_sought}
use Rattle.mmt_runs.specs.Index.{at_span}
use Rattle.mmt_runs.specs.Lending.{the_presentation}
use Rattle.mmt_runs.specs.Order.{order_now}
use Rattle.mmt_runs.specs.Seeking.{Passes}
use Rattle.mmt_runs.proofs.Sought.{stepped}
use Rattle.mmt_runs.proofs.Spans.{next_start}
use Rattle.mmt_runs.proofs.seeking.least_of_all.Goals as goal

pub loop-span-preserved : goal.loop-span-preserved
loop-span-preserved c =
    let i = c.loop-span.invariant in
    let t = stepped (is_sought (order_now c.args.range.now.after) c.args.range.now.from.0 c.args.range.now.to.0) c.args.range.now.names.now c.args.pool.now.kept (option_map the_presentation c.loop-span.best) (option_map the_presentation c.best_in-best.result) c.in-Some.span.now i.named c.best_in-best.ensures in
    record {
      named = t.named;
      least = λ s mpu h.
          ⊎_elim
          (λ (pass : Passes (is_sought (order_now c.args.range.now.after) c.args.range.now.from.0 c.args.range.now.to.0) c.args.range.now.names.now c.args.pool.now.kept (option_map the_presentation c.loop-span.best) s). inl (λ d a g. t.keeps d s a g (pass d a g)))
          (λ (b : at_span c.loop-span.span-iterator s ≡ Some mpu).
          ⊎_elim
          (λ (e : (s ≡ c.in-Some.span.now) × (c.in-Some.field-0-1.now ≡ mpu)). inl (subst (λ (x : Span). Passes (is_sought (order_now c.args.range.now.after) c.args.range.now.from.0 c.args.range.now.to.0) c.args.range.now.names.now c.args.pool.now.kept (option_map the_presentation c.best_in-best.result) x) (sym e.0) t.passes))
          (λ (r : at_span c.next.new.self s ≡ Some mpu). inr r)
          (next_start (c.in-Some.span.now, c.in-Some.field-0-1.now) c.next.new.self s mpu (subst (λ es. at_span es s ≡ Some mpu) c.in-Some.ensures.steps b)))
          (i.least s mpu h);
    }
