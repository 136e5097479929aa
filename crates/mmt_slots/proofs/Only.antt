-- Of the schedules with the earliest deadline first there is one.
use Rattle.std.proofs.Common.{◌≡◌, ◌⊎◌, inl, inr, ℕ, ◌<◌, ◌≤◌, zero, suc, List, [], ◌∷◌, length, get_or, arith, refl, ap, ap₂, sym, ◌∙◌, ⊎_elim}
use Rattle.std.proofs.lemmas.Bool.{cases_eq, cases_lt}
use Rattle.mmt_slots.specs.Schedule.{GoesBefore, IsEarliestFirst, IsFree, IsSchedule, SchedulesAreOne, release_of, slot_of, tick_of}
use Rattle.mmt_slots.specs.declared.row.Job.{Job}
use Rattle.mmt_slots.specs.declared.row.Slots.{Slots}

-- a slot is free, or it is that of a job
free-or-taken : (given : List ℕ) (k : ℕ) → IsFree given k ⊎ ((j : ℕ) × (j < length given) × (slot_of given j ≡ k))
free-or-taken [] k = inl (λ i l e. absurd (omega (arith, l)))
free-or-taken (s ∷ given) k = ⊎_elim (λ (e : s ≡ k). inr (0, omega arith, e)) (λ (ne : s ≡ k → ⊥). later ne (free-or-taken given k)) (cases_eq s k)
  where
    later : (s ≡ k → ⊥) → IsFree given k ⊎ ((j : ℕ) × (j < length given) × (slot_of given j ≡ k)) → IsFree (s ∷ given) k ⊎ ((j : ℕ) × (j < length (s ∷ given)) × (slot_of (s ∷ given) j ≡ k))
    later ne (inl free) = inl (free-after ne free)
      where
        free-after : (s ≡ k → ⊥) → IsFree given k → IsFree (s ∷ given) k
        free-after ne free zero l e = ne e
        free-after ne free (suc i) l e = free i (omega arith) e
    later ne (inr taken) = inr (suc taken.0, omega (arith, taken.1), taken.2)

not-both : (jobs : List Job) (x y : ℕ) → GoesBefore jobs x y → GoesBefore jobs y x → ⊥
not-both jobs x y (inl a) (inl b) = omega (arith, a, b)
not-both jobs x y (inl a) (inr b) = omega (arith, a, b.0)
not-both jobs x y (inr a) (inl b) = omega (arith, a.0, b)
not-both jobs x y (inr a) (inr b) = omega (arith, a.1, b.1)

-- the jobs that stand in a slot by one of two schedules stand in it by the other
abbrev Agree : List Job → List ℕ → List ℕ → ℕ → Type 0
Agree jobs given other k = (i : ℕ) → i < length jobs → slot_of given i ≡ k → slot_of other i ≡ k

-- so it is of each slot, where it is of those before it
step : (jobs : List Job) (slots : Slots) (given other : List ℕ) → IsSchedule jobs slots given → IsEarliestFirst jobs slots given → IsSchedule jobs slots other → IsEarliestFirst jobs slots other
    → (k : ℕ) → ((m : ℕ) → m < k → Agree jobs given other m) → ((m : ℕ) → m < k → Agree jobs other given m) → Agree jobs given other k
step jobs slots given other a af b bf k there back i l e =
    ⊎_elim (λ (lt : slot_of other i < k). absurd (let s = back (slot_of other i) lt i l refl in omega (arith, s, e, lt)))
    (λ (ge : k ≤ slot_of other i). ⊎_elim (λ (gt : k < slot_of other i). absurd (too-late gt)) (λ (le : slot_of other i ≤ k). omega arith) (cases_lt k (slot_of other i)))
    (cases_lt (slot_of other i) k)
  where
    row : k < slots.count
    row = omega (arith, a.in_row i l, e)

    released : release_of jobs i ≤ tick_of slots k
    released = let t = ap (tick_of slots) e in omega (arith, a.released i l, t)

    by-job : k < slot_of other i → (j : ℕ) → j < length other → slot_of other j ≡ k → ⊥
    by-job gt j lj ej =
        let n : j < length jobs = omega (arith, lj, b.one_each) in
        let t : tick_of slots (slot_of other j) ≡ tick_of slots k = ap (tick_of slots) ej in
        let first : GoesBefore jobs j i = bf.earliest j i n l (omega (arith, ej, gt)) (omega (arith, released, t)) in
        ⊎_elim (λ (lt : slot_of given j < k). (let s = there (slot_of given j) lt j n refl in omega (arith, s, ej, lt)))
        (λ (ge : k ≤ slot_of given j).
        ⊎_elim
        (λ (more : k < slot_of given j).
        (let u : tick_of slots (slot_of given i) ≡ tick_of slots k = ap (tick_of slots) e in
        not-both jobs i j (af.earliest i j l n (omega (arith, e, more)) (omega (arith, b.released j n, t, u))) first))
        (λ (le : slot_of given j ≤ k).
        (let same : i ≡ j = a.own i j l n (omega (arith, e, ge, le)) in
        let s : slot_of other i ≡ slot_of other j = ap (slot_of other) same in
        omega (arith, gt, ej, s)))
        (cases_lt k (slot_of given j)))
        (cases_lt (slot_of given j) k)

    too-late : k < slot_of other i → ⊥
    too-late gt =
        ⊎_elim (λ (free : IsFree other k). (let s : slot_of other i ≤ k = bf.none_waits k i row free l released in omega (arith, s, gt)))
        (λ (taken : (j : ℕ) × (j < length other) × (slot_of other j ≡ k)). by-job gt taken.0 taken.1 taken.2)
        (free-or-taken other k)

module _ (jobs : List Job) (slots : Slots) (given other : List ℕ) (a : IsSchedule jobs slots given) (af : IsEarliestFirst jobs slots given) (b : IsSchedule jobs slots other) (bf : IsEarliestFirst jobs slots other) where
  -- of all slots below one
  below : (n k : ℕ) → k < n → Agree jobs given other k × Agree jobs other given k
  below zero k l = absurd (omega (arith, l))
  below (suc n) k l =
      let there : (m : ℕ) → m < k → Agree jobs given other m = λ m lm. (below n m (omega (arith, lm, l))).0 in
      let back : (m : ℕ) → m < k → Agree jobs other given m = λ m lm. (below n m (omega (arith, lm, l))).1 in
      (step jobs slots given other a af b bf k there back, step jobs slots other given b bf a af k back there)

  same-slot : (i : ℕ) → i < length jobs → slot_of given i ≡ slot_of other i
  same-slot i l = sym ((below (suc (slot_of given i)) (slot_of given i) (omega arith)).0 i l refl)

same-list : (xs ys : List ℕ) → length xs ≡ length ys → ((i : ℕ) → i < length xs → slot_of xs i ≡ slot_of ys i) → xs ≡ ys
same-list [] [] e h = refl
same-list [] (y ∷ ys) e h = absurd (omega (arith, e))
same-list (x ∷ xs) [] e h = absurd (omega (arith, e))
same-list (x ∷ xs) (y ∷ ys) e h = ap₂ (λ (z : ℕ) (zs : List ℕ). z ∷ zs) (h 0 (omega arith)) (same-list xs ys (omega (arith, e)) (λ i l. h (suc i) (omega (arith, l))))

pub only-one : SchedulesAreOne
only-one jobs slots given other a af b bf = same-list given other (a.one_each ∙ sym b.one_each) (λ i l. same-slot jobs slots given other a af b bf i (omega (arith, l, a.one_each)))
