-- The slots at first, the schedule at the end, and the refusal.
use Rattle.std.proofs.Common.{◌≡◌, ◌≢◌, ℕ, ◌+◌, ◌-◌, ◌<◌, ◌≤◌, Bool, true, ◌&&◌, ◌==◌, nat_lt, nat_le, List, [], length, get_or, replicate, arith, sym, ◌∙◌, ⊎_elim}
use Rattle.std.proofs.lemmas.List.{get_or-replicate, length-replicate}
use Rattle.std.specs.List.{count_by}
use Rattle.std.specs.List.Sorted.{IsPermutation}
use Rattle.std.proofs.lemmas.List.Sorted.{All-permutation}
use Rattle.std.proofs.lemmas.Bool.Decides.{nat_tests}
use Rattle.std.proofs.lemmas.Bool.{cases_lt}
use Rattle.mmt_model.specs.Counts.{as_number}
use Rattle.mmt_slots.specs.declared.row.Job.{Job}
use Rattle.mmt_slots.specs.declared.row.Slots.{Slots}
use Rattle.mmt_slots.specs.declared.line.Waiting.{Waiting}
use Rattle.mmt_slots.specs.Schedule.{release_of, deadline_of, slot_of, IsSchedule, IsEarliestFirst, IsCounted, jobs_within}
use Rattle.mmt_slots.specs.Row.{first_at, end_at}
use Rattle.mmt_slots.specs.Lines.{named, waiting_within, IsFound}
use Rattle.mmt_slots.proofs.Counting.{count-permutation, found_at}
use Rattle.mmt_slots.proofs.Naming.{IsJobFrom, named-are, named-count, named-places}
use Rattle.mmt_slots.proofs.Rows.{tick-from_first, first-from_tick, tick-from_end, row-from_end, slots_within-is}
use Rattle.mmt_slots.proofs.Placing.{IsJob, HasSlot, ArePlaced, test_of}

job_from : (jobs : List Job) (w : Waiting) → IsJobFrom 0 jobs w → IsJob jobs w
job_from jobs w h =
    let e : w.place - 0 ≡ w.place = omega arith in
    record { place = omega (arith, h.high); release = rw e at h.release; deadline = rw e at h.deadline }

in_places : (i n : ℕ) → i < n → as_number (nat_le 0 i && nat_lt i (0 + n)) ≡ 1
in_places i n l = grind (arith, nat_tests)

-- no job has a slot yet
pub placed_none : (jobs : List Job) (slots : Slots) (left : List Waiting) → IsPermutation (named 0 jobs) left → ArePlaced jobs slots 0 left (replicate (length jobs) slots.count)
placed_none jobs slots left h = record {
  in_row = omega arith;
  one_each = length-replicate (length jobs) slots.count;
  are_jobs = All-permutation (IsJob jobs) (named 0 jobs) left h (λ k d l. job_from jobs (get_or (named 0 jobs) k d) (named-are 0 jobs k d l));
  once = λ i l. omega (arith, count-permutation (λ (w : Waiting). w.place == i) (named 0 jobs) left h, named-places i 0 jobs, in_places i (length jobs) l, test_of _ _ (none i l));
  slot = λ i l n. absurd (n (none i l));
  own = λ i j l k n e. absurd (n (none i l));
  none_waits = λ k i l. absurd (omega arith);
  earliest = λ x y l k less. absurd (omega (arith, none x l, none y k));
}
  where
    none : (i : ℕ) → i < length jobs → slot_of (replicate (length jobs) slots.count) i ≡ slots.count
    none i l = get_or-replicate (length jobs) i slots.count 0 l

-- all jobs have slots
pub placed_all : (jobs : List Job) (slots : Slots) (from : ℕ) (given : List ℕ) → 1 ≤ slots.step → ArePlaced jobs slots from [] given → IsSchedule jobs slots given × IsEarliestFirst jobs slots given
placed_all jobs slots from given step p = (
  record {
    one_each = p.one_each;
    in_row = λ i l. row-from_end slots (slot_of given i) (deadline_of jobs i) (has i l).in_time;
    released = λ i l. tick-from_first slots (slot_of given i) (release_of jobs i) step (has i l).can;
    in_time = λ i l. tick-from_end slots (slot_of given i) (deadline_of jobs i) step (has i l).in_time;
    own = λ i j l k e. p.own i j l k (some i l) e;
  },
  record {
    none_waits = λ k i b free l r.
        ⊎_elim
        (λ (later : k < slot_of given i). absurd (omega (arith, p.none_waits k i (omega (arith, (has i l).below)) free l later, first-from_tick slots k (release_of jobs i) step r)))
        (λ (no : slot_of given i ≤ k). no)
        (cases_lt k (slot_of given i));
    earliest = λ x y l k less r. p.earliest x y l k less (first-from_tick slots (slot_of given x) (release_of jobs y) step r);
  },
)
  where
    some : (i : ℕ) → i < length jobs → slot_of given i ≢ slots.count
    some i l e = omega (arith, p.once i l, test_of _ _ e)

    has : (i : ℕ) → i < length jobs → HasSlot jobs slots from i (slot_of given i)
    has i l = p.slot i l (λ e. omega (arith, p.once i l, test_of _ _ e))

-- a test of release and deadline counts in line what it counts of the jobs
counts_same : (p : ℕ → ℕ → Bool) (jobs : List Job) (order : List Waiting) → IsPermutation (named 0 jobs) order → count_by (λ w. p w.release w.deadline) order ≡ count_by (λ job. p job.release job.deadline) jobs
counts_same p jobs order h = count-permutation (λ (w : Waiting). p w.release w.deadline) (named 0 jobs) order h ∙ named-count p 0 jobs

-- what is refused is overfull
pub refusal_counts : (jobs : List Job) (slots : Slots) (order : List Waiting) (from to found room : ℕ) → 1 ≤ slots.step → IsPermutation (named 0 jobs) order → IsFound slots order from to → found ≡ waiting_within order from to → room ≡ end_at slots to - first_at slots from → IsCounted jobs slots from to found room
refusal_counts jobs slots order from to found room step h f e g =
    let same : waiting_within order from to ≡ jobs_within jobs from to = counts_same (λ (r d : ℕ). nat_le from r && nat_le d to) jobs order h in
    record {
      overfull = omega (arith, f.overfull, same, slots_within-is slots from to step);
      jobs_counted = e ∙ same;
      slots_counted = g ∙ sym (slots_within-is slots from to step);
      from_release = first_one (found_at (λ (job : Job). (job.release == from) && nat_le job.deadline to) (record { release = 0; deadline = 0 }) jobs (omega (arith, f.first, counts_same (λ (r d : ℕ). (r == from) && nat_le d to) jobs order h)));
      to_deadline = last_one (found_at (λ (job : Job). nat_le from job.release && (job.deadline == to)) (record { release = 0; deadline = 0 }) jobs (omega (arith, f.last, counts_same (λ (r d : ℕ). nat_le from r && (d == to)) jobs order h)));
    }
  where
    test_first : (r d : ℕ) → ((r == from) && nat_le d to) ≡ true → (r ≡ from) × (d ≤ to)
    test_first r d t = grind (arith, nat_tests)

    test_last : (r d : ℕ) → (nat_le from r && (d == to)) ≡ true → (from ≤ r) × (d ≡ to)
    test_last r d t = grind (arith, nat_tests)

    first_one : (i : ℕ) × (i < length jobs) × (((release_of jobs i == from) && nat_le (deadline_of jobs i) to) ≡ true) → (i : ℕ) × (i < length jobs) × (release_of jobs i ≡ from) × (deadline_of jobs i ≤ to)
    first_one f = let t : (release_of jobs f.0 ≡ from) × (deadline_of jobs f.0 ≤ to) = test_first _ _ f.2 in (f.0, f.1, t.0, t.1)

    last_one : (i : ℕ) × (i < length jobs) × ((nat_le from (release_of jobs i) && (deadline_of jobs i == to)) ≡ true) → (i : ℕ) × (i < length jobs) × (from ≤ release_of jobs i) × (deadline_of jobs i ≡ to)
    last_one f = let t : (from ≤ release_of jobs f.0) × (deadline_of jobs f.0 ≡ to) = test_last _ _ f.2 in (f.0, f.1, t.0, t.1)
