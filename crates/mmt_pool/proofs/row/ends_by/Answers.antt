use Rattle.std.proofs.Common.{◌≡◌, ◌-◌, arith, refl, length}
use Rattle.std.proofs.lemmas.Bool.{leb-true, le-leb}
use Rattle.mmt_pool.specs.Queue.{StandsAt}
use Rattle.mmt_pool.proofs.RowOrder.{has-stands}
use Rattle.mmt_pool.proofs.Queues.{up_to_last}
use Rattle.mmt_pool.proofs.row.ends_by.Goals as goal

pub returns-in-Some : goal.returns-in-Some
returns-in-Some c =
    let back : StandsAt c.args.row.now.items (length c.args.row.now.items - 1) c.in-Some.last.now = rw (← c.args.row.now.ok.0) (record { within = omega (arith, c.args.row.now.ok.0, c.in-Some.ensures.variant.0 refl); is = c.in-Some.ensures.lookup }) in
    (λ e r h. omega (arith, up_to_last c.args.row.now.items c.in-Some.last.now c.requires back r h, leb-true _ _ e), λ all. le-leb _ _ (all c.in-Some.last.now (has-stands c.args.row.now.items _ c.in-Some.last.now back)))
