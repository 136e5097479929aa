use Rattle.std.proofs.Common.{◌≤◌, arith, drop}
use Rattle.std.specs.BinaryHeap.{heap_items}
use Rattle.std.specs.declared.cmp.Reverse.{Reverse}
use Rattle.std.proofs.lemmas.List.Elements.{All-tail}
use Rattle.std.proofs.lemmas.List.Sorted.{All-permutation}
use Rattle.mmt_slots.specs.declared.line.Waiting.{Waiting}
use Rattle.mmt_slots.specs.Lines.{in_line, first_of}
use Rattle.mmt_slots.proofs.Lining.{is_taken, is_empty}
use Rattle.mmt_slots.proofs.line.Line.next.Goals as goal

pub returns-in_default-clause-takes : goal.returns-in_default-clause-takes
returns-in_default-clause-takes c =
    is_empty c.args.slots.now c.skip-slot.result (in_line c.args.self.now) (heap_items c.release.new.self.released) (drop c.release.new.self.at c.release.new.self.order.items) c.skip-slot.ensures.can c.in_ok-release.ensures.same (omega (arith, c.release.new.self.released.data.ok.0, c.in_default.ensures.none)) c.in_ok-release.ensures.rest

pub returns-clause-takes : goal.returns-clause-takes
returns-clause-takes c = (
  is_taken c.args.slots.now c.args.from c.skip-slot.result (in_line c.args.self.now) (heap_items c.release.new.self.released) (heap_items c.pop.new.self) (drop c.release.new.self.at c.release.new.self.order.items) c.in-Some.top c.in_ok-release.ensures.same c.in-Some.ensures.permutation c.skip-slot.ensures.later c.in_ok-release.ensures.released (c.in-Some.ensures.below_top c.in_ok-release.ensures.sound.on_top) c.in_ok-release.ensures.rest c.skip-slot.ensures.skipped,
  record { sorted = c.in_ok-release.ensures.sound.sorted; on_top = (c.in-Some.ensures.heap_order c.in_ok-release.ensures.sound.on_top).0 },
  All-tail (λ (r : Reverse Waiting). first_of c.args.slots.now r.0 ≤ c.skip-slot.result) c.in-Some.top (heap_items c.pop.new.self) (All-permutation (λ (r : Reverse Waiting). first_of c.args.slots.now r.0 ≤ c.skip-slot.result) (heap_items c.release.new.self.released) _ c.in-Some.ensures.permutation c.in_ok-release.ensures.released),
)
