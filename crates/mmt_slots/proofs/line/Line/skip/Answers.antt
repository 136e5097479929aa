use Rattle.std.proofs.Common.{◌≡◌, ℕ, ◌<◌, ◌≤◌, ◌==◌, Bool, true, false, length, get_or, arith, drop, inr, subst, List}
use Rattle.std.specs.BinaryHeap.{heap_items}
use Rattle.std.proofs.lemmas.Bool.Decides.{nat_tests}
use Rattle.mmt_slots.specs.declared.line.Waiting.{Waiting}
use Rattle.mmt_slots.specs.Lines.{first_of, in_line}
use Rattle.mmt_slots.proofs.Lining.{released_can, all_unreleased, first_unreleased, none_sooner}
use Rattle.mmt_slots.proofs.line.Line.skip.Goals as goal

some_of : (n : ℕ) (b : Bool) → b ≡ (n == 0) → b ≡ false → 0 < n
some_of n b e f = grind (arith, nat_tests)

none_of : (n : ℕ) (b : Bool) → b ≡ (n == 0) → b ≡ true → n ≡ 0
none_of n b e f = grind (arith, nat_tests)

pub returns-then-not-is_empty-clause-can : goal.returns-then-not-is_empty-clause-can
returns-then-not-is_empty-clause-can c =
    released_can c.args.slots.now c.args.from (heap_items c.args.self.now.released) _ (omega (arith, c.args.self.now.released.data.ok.0, some_of _ _ c.is_empty.ensures c.if-not-is_empty.true)) c.requires.released

pub returns-in-Some-clause-skipped : goal.returns-in-Some-clause-skipped
returns-in-Some-clause-skipped c skips k d l =
    let e : length (heap_items c.args.self.now.released) ≡ 0 = omega (arith, c.args.self.now.released.data.ok.0, none_of _ _ c.is_empty.ensures c.if-not-is_empty.false) in
    let v : c.deref.result.now ≡ c.args.self.now.order.items = c.deref.ensures.value in
    let x : Waiting = c.in-Some.job.now in
    let at : ℕ = c.args.self.now.at in
    let in' : at < length c.args.self.now.order.items = subst (λ (xs : List Waiting). at < length xs) v c.in-Some.ensures.lookup.3.0 in
    let same : x ≡ get_or c.args.self.now.order.items at x = subst (λ (xs : List Waiting). x ≡ get_or xs at x) v c.in-Some.ensures.lookup.1 in
    let all : first_of c.args.slots.now x ≤ first_of c.args.slots.now (get_or (in_line c.args.self.now) k d) =
    all_unreleased (λ (w : Waiting). first_of c.args.slots.now x ≤ first_of c.args.slots.now w) (heap_items c.args.self.now.released) (drop at c.args.self.now.order.items) e (none_sooner c.args.slots.now c.args.self.now.order.items at x c.requires.step c.requires.sound.sorted in' same) k d l in
    omega (arith, c.max.ensures, c.first_at.ensures, skips, all)

pub returns-in-Some-clause-can : goal.returns-in-Some-clause-can
returns-in-Some-clause-can c =
    let e : length (heap_items c.args.self.now.released) ≡ 0 = omega (arith, c.args.self.now.released.data.ok.0, none_of _ _ c.is_empty.ensures c.if-not-is_empty.false) in
    let v : c.deref.result.now ≡ c.args.self.now.order.items = c.deref.ensures.value in
    let x : Waiting = c.in-Some.job.now in
    let at : ℕ = c.args.self.now.at in
    let in' : at < length c.args.self.now.order.items = subst (λ (xs : List Waiting). at < length xs) v c.in-Some.ensures.lookup.3.0 in
    let same : x ≡ get_or c.args.self.now.order.items at x = subst (λ (xs : List Waiting). x ≡ get_or xs at x) v c.in-Some.ensures.lookup.1 in
    inr (x, first_unreleased (heap_items c.args.self.now.released) c.args.self.now.order.items at x e in' same, omega (arith, c.max.ensures, c.first_at.ensures))
