-- One more job is given a slot.
use Rattle.std.proofs.Common.{◌≡◌, ◌≢◌, ℕ, ◌+◌, ◌<◌, ◌≤◌, true, false, ◌==◌, List, ◌∷◌, length, set, refl, arith, sym, ◌∙◌, ◌⊎◌, inl, inr, ⊎_elim, get_or-set_other, get_or-set_same}
use Rattle.std.specs.List.{All, count_by}
use Rattle.std.proofs.lemmas.List.Elements.{All-head, All-tail, All-cons}
use Rattle.std.proofs.lemmas.List.Sorted.{All-permutation, IsPermutation-sym}
use Rattle.std.proofs.lemmas.Bool.Decides.{nat_tests}
use Rattle.std.proofs.lemmas.Bool.{cases_lt, cases_eq}
use Rattle.std.proofs.Math.ListN.{length-set}
use Rattle.mmt_model.specs.Counts.{as_number}
use Rattle.mmt_slots.specs.declared.row.Job.{Job}
use Rattle.mmt_slots.specs.declared.row.Slots.{Slots}
use Rattle.mmt_slots.specs.declared.line.Waiting.{Waiting}
use Rattle.mmt_slots.specs.Schedule.{release_of, deadline_of, slot_of, IsFree, GoesBefore}
use Rattle.mmt_slots.specs.Row.{first_at, end_at}
use Rattle.mmt_slots.specs.Lines.{first_of, IsNoLater, IsTaken}
use Rattle.mmt_slots.proofs.Counting.{count-permutation, count-yes, count-no}
use Rattle.mmt_slots.proofs.Rows.{row-from_end}
use Rattle.mmt_slots.proofs.Placing.{IsJob, HasSlot, ArePlaced, of_waiting, test_of, of_test, test_not}

-- the job at i is the one that is given the slot, and had none; or it is another, and keeps what it had
record IsNew (given : List ℕ) (place slot count i : ℕ) : Type 0 where
  same : i ≡ place
  now : slot_of (set given place slot) i ≡ slot
  was : slot_of given i ≡ count

record IsOld (given : List ℕ) (place slot i : ℕ) : Type 0 where
  other : i ≢ place
  now : slot_of (set given place slot) i ≡ slot_of given i

new_or_old : (given : List ℕ) (place slot count i : ℕ) → place < length given → slot_of given place ≡ count → IsNew given place slot count i ⊎ IsOld given place slot i
new_or_old given place slot count i l was =
    ⊎_elim
    (λ (e : i ≡ place). inl (record { same = e; now = rw e (get_or-set_same given place slot 0 l); was = rw e was }))
    (λ (n : i ≡ place → ⊥). inr (record { other = n; now = get_or-set_other given place i slot 0 n }))
    (cases_eq i place)

module _ (jobs : List Job) (slots : Slots) (from slot : ℕ) (job : Waiting) (left rest : List Waiting) (given : List ℕ) (step : 1 ≤ slots.step) (p : ArePlaced jobs slots from left given) (t : IsTaken slots from slot job left rest) (h : slot < end_at slots job.deadline) where
  is_job : IsJob jobs job
  is_job = All-head (IsJob jobs) job rest (All-permutation (IsJob jobs) left (job ∷ rest) t.taken p.are_jobs)

  in_row : slot < slots.count
  in_row = row-from_end slots slot job.deadline h

  place_in : job.place < length given
  place_in = omega (arith, is_job.place, p.one_each)

  itself : (job.place == job.place) ≡ true
  itself = grind (arith, nat_tests)

  was : slot_of given job.place ≡ slots.count
  was = of_test (slot_of given job.place) slots.count _ (p.once job.place is_job.place) (omega (arith, count-permutation (λ (w : Waiting). w.place == job.place) left (job ∷ rest) t.taken, count-yes (λ (w : Waiting). w.place == job.place) job rest itself))

  cases_at : (i : ℕ) → IsNew given job.place slot slots.count i ⊎ IsOld given job.place slot i
  cases_at i = new_or_old given job.place slot slots.count i place_in was

  new_slot : List ℕ
  new_slot = set given job.place slot

  rest_all : (P : Waiting → Type 0) → All P left → All P rest
  rest_all P a = All-tail P job rest (All-permutation P left (job ∷ rest) t.taken a)

  count_eq : (i : ℕ) → count_by (λ (w : Waiting). w.place == i) (job ∷ rest) ≡ count_by (λ (w : Waiting). w.place == i) left
  count_eq i = count-permutation (λ (w : Waiting). w.place == i) left (job ∷ rest) t.taken

  once : (i : ℕ) → i < length jobs → count_by (λ w. w.place == i) rest ≡ as_number (slot_of new_slot i == slots.count)
  unfolding new_slot
  once i l =
      ⊎_elim
      (λ (n : IsNew given job.place slot slots.count i).
      let e : (job.place == i) ≡ true = let s = n.same in grind (arith, nat_tests) in
      let z : slot_of (set given job.place slot) i ≢ slots.count = omega (arith, n.now, in_row) in
      omega (arith, count_eq i, count-yes (λ (w : Waiting). w.place == i) job rest e, p.once i l, test_of (slot_of given i) slots.count n.was, test_not _ _ z))
      (λ (o : IsOld given job.place slot i).
      let e : (job.place == i) ≡ false = let s = o.other in grind (arith, nat_tests) in
      rw o.now (omega (arith, count_eq i, count-no (λ (w : Waiting). w.place == i) job rest e, p.once i l)))
      (cases_at i)

  has_slot : (i : ℕ) → i < length jobs → slot_of new_slot i ≢ slots.count → HasSlot jobs slots (slot + 1) i (slot_of new_slot i)
  unfolding new_slot
  has_slot i l m =
      ⊎_elim
      (λ (n : IsNew given job.place slot slots.count i).
      rw n.now (record {
        below = omega arith;
        can = rw n.same (rw is_job.release t.can);
        in_time = rw n.same (rw is_job.deadline h);
      }))
      (λ (o : IsOld given job.place slot i).
      let s : HasSlot jobs slots from i (slot_of given i) = p.slot i l (λ e. m (o.now ∙ e)) in
      rw o.now (record { below = omega (arith, s.below, t.later); can = s.can; in_time = s.in_time }))
      (cases_at i)

  -- a job that keeps the slot that it had has none at or above this one
  old_below : (i : ℕ) → i < length jobs → slot_of given i ≢ slots.count → slot_of given i < slot
  old_below i l n = omega (arith, (p.slot i l n).below, t.later)

  own : (i j : ℕ) → i < length jobs → j < length jobs → slot_of new_slot i ≢ slots.count → slot_of new_slot i ≡ slot_of new_slot j → i ≡ j
  unfolding new_slot
  own i j l k m e =
      ⊎_elim
      (λ (n : IsNew given job.place slot slots.count i).
      ⊎_elim
      (λ (n' : IsNew given job.place slot slots.count j). n.same ∙ sym n'.same)
      (λ (o : IsOld given job.place slot j).
      let s : slot_of given j ≡ slot = sym o.now ∙ sym e ∙ n.now in
      let z : slot_of given j < slot = old_below j k (omega (arith, in_row)) in
      absurd (omega arith))
      (cases_at j))
      (λ (o : IsOld given job.place slot i).
      let d : slot_of given i ≢ slots.count = λ f. m (o.now ∙ f) in
      ⊎_elim
      (λ (n : IsNew given job.place slot slots.count j).
      let s : slot_of given i ≡ slot = sym o.now ∙ e ∙ n.now in
      absurd (omega (arith, old_below i l d)))
      (λ (o' : IsOld given job.place slot j). p.own i j l k d (sym o.now ∙ e ∙ o'.now))
      (cases_at j))
      (cases_at i)

  -- a job without a slot, where the first slots were skipped
  skipped_first : (i : ℕ) → i < length jobs → slot_of given i ≡ slots.count → from < slot → slot ≤ first_at slots (release_of jobs i)
  skipped_first i l e s = of_waiting (λ (place release deadline : ℕ). slot ≤ first_at slots release) jobs slots from left given p (t.skipped s) i l e

  free_before : (k : ℕ) → k < slots.count → IsFree (set given job.place slot) k → IsFree given k
  free_before k l free i m e =
      ⊎_elim
      (λ (n : IsNew given job.place slot slots.count i). omega (arith, n.was))
      (λ (o : IsOld given job.place slot i). free i (omega (arith, length-set given job.place slot)) (o.now ∙ e))
      (cases_at i)

  none_waits : (k i : ℕ) → k < slot + 1 → IsFree new_slot k → i < length jobs → k < slot_of new_slot i → k < first_at slots (release_of jobs i)
  unfolding new_slot
  none_waits k i b free l later =
      ⊎_elim
      (λ (b' : k < slot).
      ⊎_elim
      (λ (early : k < from).
      let free' : IsFree given k = free_before k (omega (arith, in_row)) free in
      ⊎_elim
      (λ (n : IsNew given job.place slot slots.count i). p.none_waits k i early free' l (omega (arith, n.was, in_row)))
      (λ (o : IsOld given job.place slot i). p.none_waits k i early free' l (omega (arith, o.now)))
      (cases_at i))
      (λ (past : from ≤ k).
      ⊎_elim
      (λ (n : IsNew given job.place slot slots.count i). omega (arith, skipped_first i l n.was (omega arith)))
      (λ (o : IsOld given job.place slot i).
      ⊎_elim
      (λ (e : slot_of given i ≡ slots.count). omega (arith, skipped_first i l e (omega arith)))
      (λ (d : slot_of given i ≡ slots.count → ⊥). absurd (omega (arith, (p.slot i l d).below, o.now)))
      (cases_eq (slot_of given i) slots.count))
      (cases_at i))
      (cases_lt k from))
      (λ (here : slot ≤ k). absurd (free job.place (omega (arith, place_in, length-set given job.place slot)) (get_or-set_same given job.place slot 0 place_in ∙ (omega arith))))
      (cases_lt k slot)

  -- of the jobs in line that can stand there, it goes first
  goes_first : All (λ w. first_of slots w ≤ slot → IsNoLater job w) left
  goes_first = All-permutation (λ w. first_of slots w ≤ slot → IsNoLater job w) (job ∷ rest) left (IsPermutation-sym left (job ∷ rest) t.taken) (All-cons (λ w. first_of slots w ≤ slot → IsNoLater job w) job rest (λ c. inr (refl, omega arith)) t.earliest)

  goes_before : (x y : ℕ) → x ≡ job.place → y ≢ job.place → (job.deadline < deadline_of jobs y) ⊎ ((job.deadline ≡ deadline_of jobs y) × (job.place ≤ y)) → GoesBefore jobs x y
  goes_before x y e n g =
      rw e (rw is_job.deadline (⊎_elim (λ (a : job.deadline < deadline_of jobs y). inl a) (λ (a : (job.deadline ≡ deadline_of jobs y) × (job.place ≤ y)). inr (a.0, omega (arith, a.1))) g))

  earliest : (x y : ℕ) → x < length jobs → y < length jobs → slot_of new_slot x < slot_of new_slot y → first_at slots (release_of jobs y) ≤ slot_of new_slot x → GoesBefore jobs x y
  unfolding new_slot
  earliest x y l k less can =
      ⊎_elim
      (λ (n : IsNew given job.place slot slots.count x).
      ⊎_elim
      (λ (n' : IsNew given job.place slot slots.count y). absurd (omega (arith, n.now, n'.now)))
      (λ (o : IsOld given job.place slot y).
      ⊎_elim
      (λ (e : slot_of given y ≡ slots.count).
      goes_before x y n.same o.other (of_waiting (λ (place release deadline : ℕ). first_at slots release ≤ slot → (job.deadline < deadline) ⊎ ((job.deadline ≡ deadline) × (job.place ≤ place))) jobs slots from left given p goes_first y k e (omega (arith, n.now))))
      (λ (d : slot_of given y ≡ slots.count → ⊥). absurd (omega (arith, old_below y k d, n.now, o.now)))
      (cases_eq (slot_of given y) slots.count))
      (cases_at y))
      (λ (o : IsOld given job.place slot x).
      ⊎_elim
      (λ (n : IsNew given job.place slot slots.count y). p.earliest x y l k (omega (arith, o.now, n.now, n.was, in_row)) (omega (arith, o.now)))
      (λ (o' : IsOld given job.place slot y). p.earliest x y l k (omega (arith, o.now, o'.now)) (omega (arith, o.now)))
      (cases_at y))
      (cases_at x)

  pub placed_more : ArePlaced jobs slots (slot + 1) rest (set given job.place slot)
  unfolding new_slot
  placed_more = record {
    in_row = omega (arith, in_row);
    one_each = length-set given job.place slot ∙ p.one_each;
    are_jobs = rest_all (IsJob jobs) p.are_jobs;
    once = once;
    slot = has_slot;
    own = own;
    none_waits = none_waits;
    earliest = earliest;
  }
