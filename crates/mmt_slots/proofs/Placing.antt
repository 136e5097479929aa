-- The slots that are given while jobs are taken out of line, and the schedule at the end.
use Rattle.std.proofs.Common.{◌≡◌, ◌≢◌, ℕ, ◌<◌, ◌≤◌, true, ◌==◌, List, length, arith}
use Rattle.std.specs.List.{All, Contains, count_by}
use Rattle.std.proofs.lemmas.Bool.Decides.{nat_tests}
use Rattle.mmt_model.specs.Counts.{as_number}
use Rattle.mmt_slots.specs.declared.row.Job.{Job}
use Rattle.mmt_slots.specs.declared.row.Slots.{Slots}
use Rattle.mmt_slots.specs.declared.line.Waiting.{Waiting}
use Rattle.mmt_slots.specs.Schedule.{release_of, deadline_of, slot_of, IsFree, GoesBefore}
use Rattle.mmt_slots.specs.Row.{first_at, end_at}
use Rattle.mmt_slots.proofs.Counting.{found, at_contained}

-- a waiting job is the job at its place
pub record IsJob (jobs : List Job) (w : Waiting) : Type 0 where
  pub place : w.place < length jobs
  pub release : release_of jobs w.place ≡ w.release
  pub deadline : deadline_of jobs w.place ≡ w.deadline

-- a job that has a slot, below `from`
pub record HasSlot (jobs : List Job) (slots : Slots) (from i s : ℕ) : Type 0 where
  pub below : s < from
  pub can : first_at slots (release_of jobs i) ≤ s
  pub in_time : s < end_at slots (deadline_of jobs i)

-- the jobs that are not in line have slots below `from`, and those in line have the count in place of one
pub record ArePlaced (jobs : List Job) (slots : Slots) (from : ℕ) (left : List Waiting) (given : List ℕ) : Type 0 where
  pub in_row : from ≤ slots.count
  pub one_each : length given ≡ length jobs
  pub are_jobs : All (IsJob jobs) left
  pub once : (i : ℕ) → i < length jobs → count_by (λ w. w.place == i) left ≡ as_number (slot_of given i == slots.count)
  pub slot : (i : ℕ) → i < length jobs → slot_of given i ≢ slots.count → HasSlot jobs slots from i (slot_of given i)
  pub own : (i j : ℕ) → i < length jobs → j < length jobs → slot_of given i ≢ slots.count → slot_of given i ≡ slot_of given j → i ≡ j
  pub none_waits : (k i : ℕ) → k < from → IsFree given k → i < length jobs → k < slot_of given i → k < first_at slots (release_of jobs i)
  pub earliest : (x y : ℕ) → x < length jobs → y < length jobs → slot_of given x < slot_of given y → first_at slots (release_of jobs y) ≤ slot_of given x → GoesBefore jobs x y

pub test_of : (a b : ℕ) → a ≡ b → as_number (a == b) ≡ 1
test_of a b e = grind (arith, nat_tests)

pub of_test : (a b n : ℕ) → n ≡ as_number (a == b) → 0 < n → a ≡ b
of_test a b n e l = grind (arith, nat_tests)

pub test_not : (a b : ℕ) → a ≢ b → as_number (a == b) ≡ 0
test_not a b e = grind (arith, nat_tests)

-- a job that has no slot waits in line
waits : (jobs : List Job) (slots : Slots) (from : ℕ) (left : List Waiting) (given : List ℕ) → ArePlaced jobs slots from left given → (i : ℕ) → i < length jobs → slot_of given i ≡ slots.count → (w : Waiting) × Contains left w × (w.place ≡ i)
waits jobs slots from left given p i l e =
    let f : (w : Waiting) × Contains left w × ((w.place == i) ≡ true) = found (λ (w : Waiting). w.place == i) left (omega (arith, p.once i l, test_of _ _ e)) in
    (f.0, f.1, (let t : (f.0.place == i) ≡ true = f.2 in grind (arith, nat_tests)))

-- what holds of each job in line holds of one that has no slot
pub of_waiting : (P : ℕ → ℕ → ℕ → Type 0) (jobs : List Job) (slots : Slots) (from : ℕ) (left : List Waiting) (given : List ℕ) → ArePlaced jobs slots from left given → All (λ w. P w.place w.release w.deadline) left → (i : ℕ) → i < length jobs → slot_of given i ≡ slots.count → P i (release_of jobs i) (deadline_of jobs i)
of_waiting P jobs slots from left given p all i l e =
    let f : (w : Waiting) × Contains left w × (w.place ≡ i) = waits jobs slots from left given p i l e in
    go f.0 (at_contained (IsJob jobs) left f.0 p.are_jobs f.1) (at_contained (λ w. P w.place w.release w.deadline) left f.0 all f.1) f.2
  where
    go : (w : Waiting) → IsJob jobs w → P w.place w.release w.deadline → w.place ≡ i → P i (release_of jobs i) (deadline_of jobs i)
    go w j h e' = rw (← e') (rw (j.release, j.deadline) h)
