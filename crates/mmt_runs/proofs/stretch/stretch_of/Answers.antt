use Rattle.std.proofs.Common.{rules, arith, ◌∙◌, refl, sym, ◌≡◌, ℕ, ◌<◌, ◌+◌, ◌^◌}
use Rattle.mmt_base.specs.Ticks.{low, due_of, ahead_of}
use Rattle.mmt_runs.proofs.DueTimes.{Near, due-small, at_clock, behind_clock, after_clock, ahead_is, each_some}
use Rattle.mmt_runs.specs.Stretch.{HoldsDue}
use Rattle.mmt_runs.proofs.stretch.stretch_of.Goals as goal

pub overflow_add-first : goal.overflow_add-first
overflow_add-first c = omega (arith, c.long_due_of-first.ensures, due-small c.args.least.0 (omega arith))

pub stretch_from-requires-clause-first : goal.stretch_from-requires-clause-first
stretch_from-requires-clause-first c = omega (arith, c.long_due_of-first.ensures, due-small c.args.least.0 (omega arith))

pub overflow_add-first-then-ahead-ticks : goal.overflow_add-first-then-ahead-ticks
overflow_add-first-then-ahead-ticks c = omega (arith, c.long_due_of-first.ensures, due-small c.args.least.0 (omega arith))

pub stretch_from-requires-then-ahead-ticks-clause-first : goal.stretch_from-requires-then-ahead-ticks-clause-first
stretch_from-requires-then-ahead-ticks-clause-first c = omega (arith, c.long_due_of-first.ensures, due-small c.args.least.0 (omega arith))

pub stretch_from-requires-2-clause-first : goal.stretch_from-requires-2-clause-first
stretch_from-requires-2-clause-first c = omega (arith, c.long_due_of-first.ensures, due-small c.args.least.0 (omega arith))

near : (least greatest from to first last ticks : ℕ) → from < 2 ^ 32 → first ≡ due_of least → last ≡ due_of greatest → ticks ≡ ahead_of to from → ticks < 2 ^ 31 → last < first + 2 ^ 31 → Near least greatest from to
near least greatest from to first last ticks small f l t short close = record { narrow = small; ticks = omega (arith, t, short); close = omega (arith, f, l, close) }

pub returns-then-ahead-eq0 : goal.returns-then-ahead-eq0
returns-then-ahead-eq0 c =
    let n = near c.args.least.0 c.args.greatest.0 c.args.from.0 c.args.to.0 c.long_due_of-first.result.0 c.long_due_of-last.result.0 c.ahead_of-ticks.result (omega arith) c.long_due_of-first.ensures c.long_due_of-last.ensures c.ahead_of-ticks.ensures (omega arith) (omega arith) in
    let a = ahead_is c.ahead_of-ahead.result c.due_of.result.0 c.args.least.0 c.args.from.0 c.ahead_of-ahead.ensures c.due_of.ensures in
    each_some _ (HoldsDue c.args.least.0 c.args.greatest.0 c.args.from.0 c.args.to.0) c.stretch_from.result c.stretch_from.ensures
    (λ s h. at_clock _ _ _ _ s n (a ∙ c.if-ahead-eq0.true) (omega (arith, h.0, c.long_due_of-first.ensures)) (omega (arith, h.1, c.long_due_of-first.ensures, c.ahead_of-ticks.ensures)))

pub returns-then-ahead-ticks : goal.returns-then-ahead-ticks
returns-then-ahead-ticks c =
    let n = near c.args.least.0 c.args.greatest.0 c.args.from.0 c.args.to.0 c.long_due_of-first.result.0 c.long_due_of-last.result.0 c.ahead_of-ticks.result (omega arith) c.long_due_of-first.ensures c.long_due_of-last.ensures c.ahead_of-ticks.ensures (omega arith) (omega arith) in
    let a = ahead_is c.ahead_of-ahead.result c.due_of.result.0 c.args.least.0 c.args.from.0 c.ahead_of-ahead.ensures c.due_of.ensures in
    each_some _ (HoldsDue c.args.least.0 c.args.greatest.0 c.args.from.0 c.args.to.0) c.stretch_from-then-ahead-ticks.result c.stretch_from-then-ahead-ticks.ensures
    (λ s h. behind_clock _ _ _ _ s n (omega (arith, a, c.ahead_of-ticks.ensures)) (omega (arith, h.0, a, c.long_due_of-first.ensures)) (omega (arith, h.1, a, c.long_due_of-first.ensures, c.ahead_of-ticks.ensures)))

pub returns : goal.returns
returns c =
    let n = near c.args.least.0 c.args.greatest.0 c.args.from.0 c.args.to.0 c.long_due_of-first.result.0 c.long_due_of-last.result.0 c.ahead_of-ticks.result (omega arith) c.long_due_of-first.ensures c.long_due_of-last.ensures c.ahead_of-ticks.ensures (omega arith) (omega arith) in
    let a = ahead_is c.ahead_of-ahead.result c.due_of.result.0 c.args.least.0 c.args.from.0 c.ahead_of-ahead.ensures c.due_of.ensures in
    after_clock _ _ _ _ (record { after = c.in_ok-after.after; before = c.in_ok-found.found.before }) n (omega (arith, a)) (omega (arith, a, c.ahead_of-ticks.ensures))
    (omega arith) (omega (arith, a, c.long_due_of-first.ensures, c.ahead_of-ticks.ensures, c.in_ok-found.ensures.1))
