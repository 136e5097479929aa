use Rattle.std.proofs.Common.{◌≡◌, true, refl, subst, sym, option_map}
use Rattle.mmt_model.specs.Handing.{order_numbers}
use Rattle.mmt_runs.specs.Lending.{the_presentation}
use Rattle.mmt_runs.specs.Order.{order_now}
use Rattle.mmt_runs.specs.Told.{IsTold, Tracked}
use Rattle.mmt_runs.proofs.Naming.{named_indexed, named_begun}
use Rattle.mmt_runs.proofs.Sought.{all_passed}
use Rattle.mmt_runs.proofs.Spans.{told_order, told_times, told_begins}
use Rattle.mmt_runs.proofs.runs.Runs.least_due.Goals as goal

pub returns-then-self : goal.returns-then-self
returns-then-self c = λ told.
    let now : Tracked = record { starts = c.self.inside.starts.entries; index = c.self.inside.index.keys; is_indexed = c.self.inside.is_indexed } in
    let t : IsTold now c.args.pool.now.kept c.args.names.now = subst (λ t. IsTold t c.args.pool.now.kept c.args.names.now) (sym c.self.view_is) told in
    all_passed c.args.names.now c.args.pool.now.kept (order_now c.args.after) c.args.from.0 c.args.to.0 _ (told_order now c.args.pool.now.kept c.args.names.now t) c.least_by_order.ensures.named
    (λ s d a g. c.least_by_order.ensures.least (record { numbers = order_numbers d; span = s }) (named_indexed c.args.names.now c.self.inside.index.keys c.args.pool.now.kept s d a (told_times now c.args.pool.now.kept c.args.names.now t c.if-self.true s)) d a refl g)

pub returns-else-self : goal.returns-else-self
returns-else-self c = λ told.
    let now : Tracked = record { starts = c.self.inside.starts.entries; index = c.self.inside.index.keys; is_indexed = c.self.inside.is_indexed } in
    let t : IsTold now c.args.pool.now.kept c.args.names.now = subst (λ t. IsTold t c.args.pool.now.kept c.args.names.now) (sym c.self.view_is) told in
    all_passed c.args.names.now c.args.pool.now.kept (order_now c.args.after) c.args.from.0 c.args.to.0 _ (told_order now c.args.pool.now.kept c.args.names.now t) c.least_of_all.ensures.named
    (λ s d a g. let b = named_begun c.args.names.now c.args.pool.now.kept s d a in c.least_of_all.ensures.least s b.0 (rw b.1 at (told_begins now c.args.pool.now.kept c.args.names.now t s)) d a g)
