use Rattle.std.proofs.Common.{◌≡◌, ◌+◌, ◌<◌, ◌≤◌, ◌∷◌, length, arith, subst}
use Rattle.std.specs.List.Sorted.{IsPermutation}
use Rattle.std.specs.BinaryHeap.{heap_items}
use Rattle.std.specs.declared.cmp.Reverse.{Reverse}
use Rattle.std.proofs.lemmas.List.Sorted.{IsPermutation-trans, All-permutation}
use Rattle.std.proofs.lemmas.List.Elements.{All-cons}
use Rattle.mmt_slots.specs.declared.line.Waiting.{Waiting}
use Rattle.mmt_slots.specs.Lines.{in_line, first_of}
use Rattle.mmt_slots.proofs.Lining.{release_one, none_later, same_read}
use Rattle.mmt_slots.proofs.line.Line.release.Goals as goal

pub loop-self-preserved : goal.loop-self-preserved
loop-self-preserved c =
    let l : c.loop-self.self.at < length c.loop-self.self.order.items = omega (arith, c.len.ensures, c.loop-self-test.true, c.loop-self.self.order.ok.0) in
    let x : Waiting = c.index-in-loop-self.result.now in
    let r : Reverse Waiting = record { 0 = x } in
    let h : IsPermutation (r ∷ heap_items c.loop-self.self.released) (heap_items c.push.new.self) = c.in_ok-push.ensures.permutation in
    let e : c.index.result.now ≡ x = same_read c.loop-self.self.order.items c.loop-self.self.at c.index.result.now x l c.index.ensures c.index-in-loop-self.ensures in
    let one : first_of c.args.slots.now x ≤ c.args.slot = subst (λ (w : Waiting). first_of c.args.slots.now w ≤ c.args.slot) e (omega (arith, c.first_at.ensures, c.if-first_at-slot.true)) in (
      IsPermutation-trans (in_line c.args.self.now) (in_line c.loop-self.self) (in_line (record { order = c.loop-self.self.order; at = c.loop-self.self.at + 1; released = c.push.new.self })) c.loop-self.invariant.0 (release_one (heap_items c.loop-self.self.released) (heap_items c.push.new.self) c.loop-self.self.at c.loop-self.self.order.items x l c.index-in-loop-self.ensures h),
      c.loop-self.invariant.1,
      record { sorted = c.loop-self.invariant.2.sorted; on_top = c.in_ok-push.ensures.heap_order c.loop-self.invariant.2.on_top },
      All-permutation (λ (r : Reverse Waiting). first_of c.args.slots.now r.0 ≤ c.args.slot) (r ∷ heap_items c.loop-self.self.released) (heap_items c.push.new.self) h (All-cons (λ (r : Reverse Waiting). first_of c.args.slots.now r.0 ≤ c.args.slot) r (heap_items c.loop-self.self.released) one c.loop-self.invariant.3),
    )

pub returns-else-first_at-slot-clause-rest : goal.returns-else-first_at-slot-clause-rest
returns-else-first_at-slot-clause-rest c =
    none_later c.args.slots.now c.loop-self.self.order.items c.loop-self.self.at c.args.slot c.index.result.now c.requires.step c.loop-self.invariant.2.sorted (omega (arith, c.len.ensures, c.loop-self-test.true, c.loop-self.self.order.ok.0)) c.index.ensures (omega (arith, c.first_at.ensures, c.if-first_at-slot.false))
