use Rattle.std.proofs.Common.{◌≡◌, ◌-◌, ◌∙◌, ℕ, length, true, arith, refl, sym}
use Rattle.mmt_base.specs.Ticks.{is_after, plus}
use Rattle.mmt_pool.specs.declared.queue.Queued.{Queued}
use Rattle.mmt_pool.specs.Queue.{has, StandsAt}
use Rattle.mmt_pool.proofs.Ticks.{in_outside_last}
use Rattle.mmt_pool.proofs.Queues.{from_first, up_to_last, straight_out, wrapped_out, wrapped_in}
use Rattle.mmt_pool.proofs.row.place_out.Goals as goal

pub returns-then-last-least : goal.returns-then-last-least
returns-then-last-least c = λ r h.
    let first : StandsAt c.args.row.now.items 0 c.in_ok-least.least.now = record { within = omega (arith, c.args.row.now.ok.0, c.in_ok-least.ensures.variant.0 refl); is = c.in_ok-least.ensures.lookup } in
    in_outside_last r.time c.args.window c.args.clock.0 c.ahead_of-last.result c.plus-first.result.0 (c.requires.short r h) (omega arith) c.requires.clock c.ahead_of-last.ensures c.plus-first.ensures c.if-first-last.true (omega (arith, from_first c.args.row.now.items c.in_ok-least.least.now c.requires.row first r h))

pub returns-then-first-last : goal.returns-then-first-last
returns-then-first-last c = straight_out c.args.row.now.items c.args.clock.0 c.args.window c.ahead_of-last.result c.plus-first.result.0 c.place_between.result c.requires.short (omega arith) c.requires.clock c.ahead_of-last.ensures c.plus-first.ensures c.if-first-last.true c.place_between.ensures

pub returns-then-first-greatest : goal.returns-then-first-greatest
returns-then-first-greatest c =
    let back : StandsAt c.args.row.now.items (c.len.result - 1) c.in_ok-greatest.greatest.now = rw c.len.ensures (record { within = omega (arith, c.args.row.now.ok.0, c.in_ok-greatest.ensures.variant.0 refl); is = c.in_ok-greatest.ensures.lookup }) in
    wrapped_out c.args.row.now.items c.args.clock.0 c.args.window c.ahead_of-last.result c.plus-first.result.0 (c.len.result - 1) c.in_ok-greatest.greatest.now c.requires.short (omega arith) c.requires.clock c.ahead_of-last.ensures c.plus-first.ensures c.if-first-last.false back c.if-first-greatest.true

pub returns-else-first-greatest : goal.returns-else-first-greatest
returns-else-first-greatest c =
    let first : StandsAt c.args.row.now.items 0 c.in_ok-least.least.now = record { within = omega (arith, c.args.row.now.ok.0, c.in_ok-least.ensures.variant.0 refl); is = c.in_ok-least.ensures.lookup } in
    let back : StandsAt c.args.row.now.items (length c.args.row.now.items - 1) c.in_ok-greatest.greatest.now = rw (← c.args.row.now.ok.0) (record { within = omega (arith, c.args.row.now.ok.0, c.in_ok-greatest.ensures.variant.0 refl); is = c.in_ok-greatest.ensures.lookup }) in
    let in_window : is_after (plus c.in_ok-least.least.now.time c.args.window) c.args.clock.0 ≡ true = rw (← c.plus.ensures) (sym c.is_after.ensures ∙ c.if-not-is_after.false) in
    wrapped_in c.args.row.now.items c.args.clock.0 c.args.window c.ahead_of-last.result c.plus-first.result.0 c.in_ok-least.least.now c.in_ok-greatest.greatest.now c.requires.row c.requires.short (omega arith) c.requires.clock c.ahead_of-last.ensures c.plus-first.ensures c.if-first-last.false first in_window back (omega arith)
