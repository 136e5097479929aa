-- What is true while slots are given: of the jobs, the line and the slots.
use Rattle.std.proofs.Common.{◌≡◌, ℕ, ◌+◌, ◌<◌, ◌≤◌, List, [], ◌∷◌, length, set, replicate, arith, subst, sym, refl, ◌∙◌, Ok, Err}
use Rattle.std.specs.List.{All}
use Rattle.std.specs.List.Sorted.{IsPermutation}
use Rattle.std.specs.BinaryHeap.{heap_items}
use Rattle.std.specs.declared.cmp.Reverse.{Reverse}
use Rattle.std.proofs.lemmas.List.Sorted.{length_permutation, IsPermutation-refl, All-permutation}
use Rattle.std.proofs.lemmas.List.Elements.{All-head}
use Rattle.std.specs.declared.vec.Vec.{Vec}
use Rattle.std.specs.declared.alloc.Global.{Global}
use Rattle.mmt_slots.specs.declared.row.NoSchedule.{NoSchedule}
use Rattle.mmt_slots.specs.declared.row.NoSchedule.TheVariants.{Overfull, OutOfMemory}
use Rattle.mmt_slots.specs.Schedule.{Answers, IsSchedule, IsEarliestFirst}
use Rattle.mmt_slots.specs.declared.row.Job.{Job}
use Rattle.mmt_slots.specs.declared.row.Slots.{Slots}
use Rattle.mmt_slots.specs.declared.line.Line.{Line}
use Rattle.mmt_slots.specs.declared.line.Waiting.{Waiting}
use Rattle.mmt_slots.specs.Row.{end_at}
use Rattle.mmt_slots.specs.Lines.{named, in_line, first_of, IsSound, AreReleased, IsTaken, IsRefusal}
use Rattle.mmt_slots.proofs.Crowding.{AreBusy, busy_none, busy_more}
use Rattle.mmt_slots.proofs.Placing.{ArePlaced, IsJob}
use Rattle.mmt_slots.proofs.Giving.{placed_more}
use Rattle.mmt_slots.proofs.Outcomes.{placed_none, placed_all, refusal_counts}
use Rattle.mmt_slots.proofs.Pigeonhole.{overfull_forbids}

-- the slots before `from` are done
pub record AreFilled (jobs : List Job) (slots : Slots) (from : ℕ) (line : Line) (given : List ℕ) : Type 0 where
  pub sound : IsSound line
  pub released : AreReleased slots from line
  pub all : IsPermutation (named 0 jobs) line.order.items
  pub busy : AreBusy slots from line.order.items (in_line line)
  pub placed : ArePlaced jobs slots from (in_line line) given

length-named : (n : ℕ) (jobs : List Job) → length (named n jobs) ≡ length jobs
length-named n [] = refl
length-named n (job ∷ jobs) = omega (arith, length-named (n + 1) jobs)

-- no more jobs are in order than there are
pub length_order : (jobs : List Job) (order : List Waiting) → IsPermutation (named 0 jobs) order → length order ≡ length jobs
length_order jobs order h = length_permutation (named 0 jobs) order h ∙ length-named 0 jobs

-- at first none is
pub filled_none : (jobs : List Job) (slots : Slots) (line : Line) (given : List ℕ) → IsSound line → heap_items line.released ≡ [] → IsPermutation (named 0 jobs) (in_line line) → line.order.items ≡ in_line line → given ≡ replicate (length jobs) slots.count → AreFilled jobs slots 0 line given
filled_none jobs slots line given sound none all same e = record {
  sound = sound;
  released = subst (λ (rs : List (Reverse Waiting)). All (λ r. first_of slots r.0 ≤ 0) rs) (sym none) (λ k d l. absurd (omega arith));
  all = subst (λ (ws : List Waiting). IsPermutation (named 0 jobs) ws) (sym same) all;
  busy = busy_none slots line.order.items (in_line line) (subst (λ (ws : List Waiting). IsPermutation line.order.items ws) same (IsPermutation-refl line.order.items));
  placed = subst (λ (xs : List ℕ). ArePlaced jobs slots 0 (in_line line) xs) (sym e) (placed_none jobs slots (in_line line) all);
}

-- one more is
pub filled_more : (jobs : List Job) (slots : Slots) (from slot : ℕ) (job : Waiting) (line line' : Line) (given : List ℕ) → 1 ≤ slots.step → AreFilled jobs slots from line given → IsTaken slots from slot job (in_line line) (in_line line') → IsSound line' → AreReleased slots slot line' → line'.order ≡ line.order → slot < end_at slots job.deadline → AreFilled jobs slots (slot + 1) line' (set given job.place slot)
filled_more jobs slots from slot job line line' given step f t sound released same in_time = record {
  sound = sound;
  released = λ k d l. omega (arith, released k d l);
  all = subst (λ (ws : Vec Waiting Global). IsPermutation (named 0 jobs) ws.items) (sym same) f.all;
  busy = subst (λ (ws : Vec Waiting Global). AreBusy slots (slot + 1) ws.items (in_line line')) (sym same) (busy_more slots from slot line.order.items (in_line line) (in_line line') job f.busy t);
  placed = placed_more jobs slots from slot job (in_line line) (in_line line') given step f.placed t in_time;
}

-- the line is shorter then
pub line_shorter : (slots : Slots) (from slot : ℕ) (job : Waiting) (old new : List Waiting) → IsTaken slots from slot job old new → length new < length old
line_shorter slots from slot job old new t = omega (arith, length_permutation old (job ∷ new) t.taken)

-- where the line is empty, all have slots, and no interval is overfull
pub filled_all : (jobs : List Job) (slots : Slots) (from : ℕ) (line : Line) (given : List ℕ) → 1 ≤ slots.step → AreFilled jobs slots from line given → in_line line ≡ [] → Answers jobs slots (Ok given)
filled_all jobs slots from line given step f none =
    let s : IsSchedule jobs slots given × IsEarliestFirst jobs slots given = placed_all jobs slots from given step (subst (λ (ws : List Waiting). ArePlaced jobs slots from ws given) none f.placed) in
    (s.0, s.1, λ a b full. overfull_forbids jobs slots given a b full s.0)

-- the job that is taken has a place
pub taken_place : (jobs : List Job) (slots : Slots) (from slot : ℕ) (job : Waiting) (line : Line) (new : List Waiting) (given : List ℕ) → AreFilled jobs slots from line given → IsTaken slots from slot job (in_line line) new → job.place < length given
taken_place jobs slots from slot job line new given f t =
    omega (arith, f.placed.one_each, (All-head (IsJob jobs) job new (All-permutation (IsJob jobs) (in_line line) (job ∷ new) t.taken f.placed.are_jobs)).place)

-- a refusal answers
pub refusal_answers : (jobs : List Job) (slots : Slots) (order : List Waiting) (e : NoSchedule) → 1 ≤ slots.step → IsPermutation (named 0 jobs) order → IsRefusal slots order e → Answers jobs slots (Err e)
refusal_answers jobs slots order (Overfull from to found room) step h r = refusal_counts jobs slots order from to found room step h r.0 r.1 r.2
refusal_answers jobs slots order OutOfMemory step h r = absurd r
