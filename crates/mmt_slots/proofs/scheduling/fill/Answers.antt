use Rattle.std.proofs.Common.{◌≡◌, length, arith, refl}
use Rattle.std.proofs.lemmas.Result.{err_from_is_err_and}
use Rattle.std.specs.List.Sorted.{IsPermutation}
use Rattle.mmt_slots.specs.Lines.{in_line, named}
use Rattle.mmt_slots.proofs.Crowding.{late_is_crowded}
use Rattle.mmt_slots.proofs.Filling.{length_order, filled_none, filled_more, line_shorter, filled_all, taken_place, refusal_answers}
use Rattle.mmt_slots.proofs.scheduling.fill.Goals as goal

pub returns-in_err-given : goal.returns-in_err-given
returns-in_err-given c = let p = err_from_is_err_and c.from_residual.result c.from_residual.ensures.1 in rw (p.1, p.2) tt

pub returns-in_err-line : goal.returns-in_err-line
returns-in_err-line c = let p = err_from_is_err_and c.from_residual-in_err-line.result c.from_residual-in_err-line.ensures.1 in rw (p.1, p.2) tt

pub returns-in_err-slot : goal.returns-in_err-slot
returns-in_err-slot c = let p = err_from_is_err_and c.from_residual-in_err-slot.result c.from_residual-in_err-slot.ensures.1 in rw (p.1, p.2) tt

pub loop-line-init : goal.loop-line-init
loop-line-init c = filled_none c.args.jobs.now c.args.slots.now c.in_ok-line.line c.in_ok-given.given.items c.in_ok-line.ensures.sound c.in_ok-line.ensures.none_released c.in_ok-line.ensures.all c.in_ok-line.ensures.order c.in_ok-given.ensures

-- the order stays
pub overfull-requires-clause-short : goal.overfull-requires-clause-short
overfull-requires-clause-short c =
    let e : length c.next.new.self.order.items ≡ length c.loop-line.line.order.items = rw c.in_ok-slot.ensures.order refl in
    let f : length c.deref.result.now ≡ length c.next.new.self.order.items = rw c.deref.ensures.value refl in
    omega (arith, length_order c.args.jobs.now c.loop-line.line.order.items c.loop-line.invariant.all, c.requires.jobs)

pub overfull-requires-clause-crowded : goal.overfull-requires-clause-crowded
overfull-requires-clause-crowded c =
    let t = rw c.in-Some.is at c.in_ok-slot.ensures.takes in
    rw c.deref.ensures.value (rw c.in_ok-slot.ensures.order
    (late_is_crowded c.args.slots.now c.loop-line.from c.in-Some.slot c.loop-line.line.order.items (in_line c.loop-line.line) (in_line c.next.new.self) c.in-Some.job c.loop-line.invariant.busy t.0 (omega (arith, c.if-from-slot.true, c.from.ensures, c.end_at.ensures))))

pub returns-then-from-slot : goal.returns-then-from-slot
returns-then-from-slot c =
    let all : IsPermutation (named 0 c.args.jobs.now) c.deref.result.now = rw c.deref.ensures.value (rw c.in_ok-slot.ensures.order c.loop-line.invariant.all) in
    refusal_answers c.args.jobs.now c.args.slots.now c.deref.result.now c.overfull.result c.requires.step all c.overfull.ensures

pub index_mut-requires : goal.index_mut-requires
index_mut-requires c =
    let t = rw c.in-Some.is at c.in_ok-slot.ensures.takes in
    omega (arith, taken_place c.args.jobs.now c.args.slots.now c.loop-line.from c.in-Some.slot c.in-Some.job c.loop-line.line (in_line c.next.new.self) c.loop-line.given.items c.loop-line.invariant t.0, c.loop-line.given.ok.0)

pub loop-line-smaller : goal.loop-line-smaller
loop-line-smaller c =
    let t = rw c.in-Some.is at c.in_ok-slot.ensures.takes in
    line_shorter c.args.slots.now c.loop-line.from c.in-Some.slot c.in-Some.job (in_line c.loop-line.line) (in_line c.next.new.self) t.0

pub loop-line-preserved : goal.loop-line-preserved
loop-line-preserved c =
    let t = rw c.in-Some.is at c.in_ok-slot.ensures.takes in
    filled_more c.args.jobs.now c.args.slots.now c.loop-line.from c.in-Some.slot c.in-Some.job c.loop-line.line c.next.new.self c.loop-line.given.items c.requires.step c.loop-line.invariant t.0 t.1 t.2 c.in_ok-slot.ensures.order (omega (arith, c.if-from-slot.false, c.from.ensures, c.end_at.ensures))

pub returns : goal.returns
returns c = filled_all c.args.jobs.now c.args.slots.now c.loop-line.from c.loop-line.line c.loop-line.given.items c.requires.step c.loop-line.invariant (rw c.in_default.is at c.in_ok-slot.ensures.takes)
