use Rattle.std.proofs.Common.{◌≡◌, ◌<◌, ◌≤◌, arith, refl, ◌⊎◌, inl, inr, ⊎_elim}
use Rattle.std.proofs.lemmas.Bool.{cases_lt}
use Rattle.mmt_pool.proofs.RowOrder.{Found, found}
use Rattle.mmt_pool.proofs.Queues.{none_from_place, none_after_place}
use Rattle.mmt_pool.proofs.row.place_between.Goals as goal

pub returns-in_err-queued : goal.returns-in_err-queued
returns-in_err-queued c = rw c.from_residual.ensures (none_from_place c.args.row.now.items c.args.first c.args.last c.place_from-place.result c.place_from-place.ensures (λ l. let n = c.in_err-queued.ensures.variant.1 (omega (arith, c.args.row.now.ok.0)) in cc))

pub returns-else-queued-last : goal.returns-else-queued-last
returns-else-queued-last c = none_after_place c.args.row.now.items c.args.first c.args.last c.place_from-place.result c.in_ok-queued.queued.now c.requires c.place_from-place.ensures (record { within = omega (arith, c.args.row.now.ok.0, c.in_ok-queued.ensures.variant.0 refl); is = c.in_ok-queued.ensures.lookup }) (omega arith)
