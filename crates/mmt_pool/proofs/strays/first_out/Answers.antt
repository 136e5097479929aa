use Rattle.std.proofs.Common.{◌≡◌, ◌∙◌, true, arith, sym}
use Rattle.mmt_base.specs.Ticks.{is_after, plus}
use Rattle.mmt_pool.proofs.Ticks.{in_outside_last}
use Rattle.mmt_pool.proofs.QueueOrder.{out_wrapped, out_straight}
use Rattle.mmt_pool.proofs.strays.first_out.Goals as goal

pub returns-then-last-first : goal.returns-then-last-first
returns-then-last-first c =
    let in_window : is_after (plus c.in-Some.queued.time c.args.window) c.args.clock.0 ≡ true = rw (← c.plus.ensures) (sym c.is_after.ensures ∙ c.if-not-is_after.false) in
    out_wrapped c.args.strays.now.keys c.args.clock.0 c.args.window c.ahead_of-last.result c.plus-first.result.0 c.in-Some.queued c.greatest_from.result c.requires.short (omega arith) c.requires.clock c.ahead_of-last.ensures c.plus-first.ensures c.if-last-first.true c.in-Some.ensures.0 c.in-Some.ensures.1 in_window c.greatest_from.ensures

pub returns-then-last-queued : goal.returns-then-last-queued
returns-then-last-queued c = λ r h. in_outside_last r.time c.args.window c.args.clock.0 c.ahead_of-last.result c.plus-first.result.0 (c.requires.short r h) (omega arith) c.requires.clock c.ahead_of-last.ensures c.plus-first.ensures c.if-last-first.false (omega (arith, c.in-Some.ensures.1 r h))

pub returns : goal.returns
returns c = out_straight c.args.strays.now.keys c.args.clock.0 c.args.window c.ahead_of-last.result c.plus-first.result.0 c.between.result c.requires.short (omega arith) c.requires.clock c.ahead_of-last.ensures c.plus-first.ensures c.if-last-first.false c.between.ensures
