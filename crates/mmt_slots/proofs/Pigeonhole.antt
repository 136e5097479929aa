-- More jobs than slots have no schedule.
use Rattle.std.proofs.Common.{◌≡◌, ℕ, zero, suc, ◌+◌, ◌<◌, ◌≤◌, Bool, true, false, ◌&&◌, ◌==◌, nat_lt, nat_le, cond, List, [], ◌∷◌, length, get_or, refl, arith, subst, sym, ◌∙◌}
use Rattle.std.specs.List.{count_by}
use Rattle.std.proofs.lemmas.Bool.Decides.{nat_tests}
use Rattle.mmt_model.specs.Counts.{as_number}
use Rattle.mmt_slots.specs.declared.row.Job.{Job}
use Rattle.mmt_slots.specs.Schedule.{tick_of, slot_of, count_below, OverfullForbids}
use Rattle.mmt_slots.proofs.Counting.{count-cons}

-- how many of the jobs that pass a test have a slot below k, or slot k
below : (Job → Bool) → ℕ → List Job → List ℕ → ℕ
below p k [] given = 0
below p k (job ∷ jobs) [] = 0
below p k (job ∷ jobs) (s ∷ given) = as_number (p job && nat_lt s k) + below p k jobs given

at : (Job → Bool) → ℕ → List Job → List ℕ → ℕ
at p k [] given = 0
at p k (job ∷ jobs) [] = 0
at p k (job ∷ jobs) (s ∷ given) = as_number (p job && (s == k)) + at p k jobs given

one_more : (b : Bool) (s k : ℕ) → as_number (b && nat_lt s (suc k)) ≡ as_number (b && nat_lt s k) + as_number (b && (s == k))
one_more false s k = refl
one_more true s k = grind (arith, nat_tests)

below_more : (p : Job → Bool) (k : ℕ) (jobs : List Job) (given : List ℕ) → below p (suc k) jobs given ≡ below p k jobs given + at p k jobs given
unfolding below at
below_more p k [] given = refl
below_more p k (job ∷ jobs) [] = refl
below_more p k (job ∷ jobs) (s ∷ given) = omega (arith, below_more p k jobs given, one_more (p job) s k)

below_none : (p : Job → Bool) (jobs : List Job) (given : List ℕ) → below p 0 jobs given ≡ 0
unfolding below
below_none p [] given = refl
below_none p (job ∷ jobs) [] = refl
below_none p (job ∷ jobs) (s ∷ given) = go (p job) (below_none p jobs given)
  where
    go : (b : Bool) → below p 0 jobs given ≡ 0 → as_number (b && nat_lt s 0) + below p 0 jobs given ≡ 0
    go true ih = grind (arith, nat_tests)
    go false ih = omega (arith, ih)

-- all jobs that pass have a slot below the count
below_all : (p : Job → Bool) (n : ℕ) (jobs : List Job) (given : List ℕ) → length given ≡ length jobs → ((i : ℕ) → i < length jobs → slot_of given i < n) → below p n jobs given ≡ count_by p jobs
unfolding below
below_all p n [] given e h = refl
below_all p n (job ∷ jobs) [] e h = absurd (omega arith)
below_all p n (job ∷ jobs) (s ∷ given) e h =
    let ih : below p n jobs given ≡ count_by p jobs = below_all p n jobs given (omega arith) (λ i l. h (suc i) (omega arith)) in
    let here : s < n = h 0 (omega arith) in
    go (p job) (count-cons p job jobs) ih here
  where
    go : (b : Bool) → count_by p (job ∷ jobs) ≡ cond b 1 0 + count_by p jobs → below p n jobs given ≡ count_by p jobs → s < n → as_number (b && nat_lt s n) + below p n jobs given ≡ count_by p (job ∷ jobs)
    go true c ih l = grind (arith, nat_tests)
    go false c ih l = omega arith

-- no job has slot k
at_none : (p : Job → Bool) (k : ℕ) (jobs : List Job) (given : List ℕ) → ((i : ℕ) → i < length jobs → p (get_or jobs i (record { release = 0; deadline = 0 })) ≡ true → slot_of given i ≡ k → ⊥) → at p k jobs given ≡ 0
unfolding at
at_none p k [] given h = refl
at_none p k (job ∷ jobs) [] h = refl
at_none p k (job ∷ jobs) (s ∷ given) h =
    go (p job) refl (s == k) refl (at_none p k jobs given (λ i l. h (suc i) (omega arith)))
  where
    go : (b : Bool) → p job ≡ b → (c : Bool) → (s == k) ≡ c → at p k jobs given ≡ 0 → as_number (b && c) + at p k jobs given ≡ 0
    go true e true f ih = absurd (h 0 (omega arith) e (grind (arith, nat_tests)))
    go true e false f ih = omega arith
    go false e c f ih = omega arith

-- one at most has it
at_one : (p : Job → Bool) (k : ℕ) (jobs : List Job) (given : List ℕ) → ((i j : ℕ) → i < length jobs → j < length jobs → slot_of given i ≡ slot_of given j → i ≡ j) → at p k jobs given ≤ 1
unfolding at
at_one p k [] given h = omega arith
at_one p k (job ∷ jobs) [] h = omega arith
at_one p k (job ∷ jobs) (s ∷ given) h =
    go (p job) (s == k) refl (at_one p k jobs given (λ i j l m e. let f : suc i ≡ suc j = h (suc i) (suc j) (omega arith) (omega arith) e in omega arith))
  where
    go : (b c : Bool) → (s == k) ≡ c → at p k jobs given ≤ 1 → as_number (b && c) + at p k jobs given ≤ 1
    go true true f ih =
        let here : s ≡ k = grind (arith, nat_tests) in
        omega (arith, at_none p k jobs given (λ i l t e. let g : 0 ≡ suc i = h 0 (suc i) (omega arith) (omega arith) (here ∙ sym e) in omega arith))
    go true false f ih = omega arith
    go false c f ih = omega arith

-- so the jobs that pass are no more than the slots that a test of slots passes, where their slots do
pigeons : (p : Job → Bool) (q : ℕ → Bool) (jobs : List Job) (given : List ℕ)
    → ((i : ℕ) → i < length jobs → p (get_or jobs i (record { release = 0; deadline = 0 })) ≡ true → q (slot_of given i) ≡ true)
    → ((i j : ℕ) → i < length jobs → j < length jobs → slot_of given i ≡ slot_of given j → i ≡ j)
    → (n : ℕ) → below p n jobs given ≤ count_below q n
unfolding count_below
pigeons p q jobs given pass own zero = omega (arith, below_none p jobs given)
pigeons p q jobs given pass own (suc n) = go (q n) refl (pigeons p q jobs given pass own n)
  where
    go : (b : Bool) → q n ≡ b → below p n jobs given ≤ count_below q n → below p (suc n) jobs given ≤ count_below q n + as_number b
    go true e ih = omega (arith, below_more p n jobs given, at_one p n jobs given own)
    go false e ih = omega (arith, below_more p n jobs given, at_none p n jobs given (λ i l t f. let g : q n ≡ true = subst (λ (x : ℕ). q x ≡ true) f (pass i l t) in cc))

both : (b c : Bool) → b && c ≡ true → (b ≡ true) × (c ≡ true)
both true true e = (refl, refl)
both true false e = absurd cc
both false c e = absurd cc

pub overfull_forbids : OverfullForbids
overfull_forbids jobs slots given from to full s =
    let p : Job → Bool = λ job. nat_le from job.release && nat_le job.deadline to in
    let q : ℕ → Bool = λ k. nat_le from (tick_of slots k) && nat_le (tick_of slots k) to in
    omega (arith, full, below_all p slots.count jobs given s.one_each s.in_row, pigeons p q jobs given (λ i l t. inside from to _ _ _ (s.released i l) (s.in_time i l) (both _ _ t)) s.own slots.count)
  where
    inside : (from to release tick deadline : ℕ) → release ≤ tick → tick ≤ deadline → (nat_le from release ≡ true) × (nat_le deadline to ≡ true) → nat_le from tick && nat_le tick to ≡ true
    inside from to release tick deadline a b c = grind (arith, nat_tests)
