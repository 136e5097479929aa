use Rattle.std.proofs.Common.{◌≡◌, ◌⊎◌, ℕ, Some, option_map}
use Rattle.mmt_pool.specs.declared.types.Span.{Span}
use Rattle.mmt_runs.specs.Choosing.{is_sought}
use Rattle.mmt_runs.specs.Index.{at_span}
use Rattle.mmt_runs.specs.Lending.{the_presentation}
use Rattle.mmt_runs.specs.Order.{order_now}
use Rattle.mmt_runs.specs.Seeking.{IsNamed, Passes}
use Rattle.mmt_runs.proofs.seeking.least_of_all.Given as goal

abbrev pub invariant-loop-span : goal.invariant-loop-span
invariant-loop-span l =
    let p = is_sought (order_now l.range.after) l.range.from.0 l.range.to.0 in
    record {
      named : IsNamed p l.range.names.now l.pool.kept (option_map the_presentation l.best);
      least : (s : Span) (mpu : ℕ) → at_span l.starts.entries s ≡ Some mpu → Passes p l.range.names.now l.pool.kept (option_map the_presentation l.best) s ⊎ (at_span l.span-iterator s ≡ Some mpu);
    }
