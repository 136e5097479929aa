-- Why a job that comes to its slot too late belongs to an overfull interval: from the last slot that no job had, or a job with a later deadline, on.
use Rattle.std.proofs.Common.{◌≡◌, ℕ, suc, ◌+◌, ◌<◌, ◌≤◌, Bool, true, ◌&&◌, ◌==◌, nat_le, List, ◌∷◌, get_or, arith, sym, ◌∙◌, ⊎_elim}
use Rattle.std.specs.List.{All, count_by}
use Rattle.std.specs.List.Sorted.{IsPermutation}
use Rattle.std.proofs.lemmas.List.Elements.{All-head, All-tail}
use Rattle.std.proofs.lemmas.List.Sorted.{All-permutation}
use Rattle.std.proofs.lemmas.Bool.Decides.{nat_tests}
use Rattle.std.proofs.lemmas.Bool.{cases_lt}
use Rattle.mmt_slots.specs.declared.row.Slots.{Slots}
use Rattle.mmt_slots.specs.declared.line.Waiting.{Waiting}
use Rattle.mmt_slots.specs.Row.{end_at}
use Rattle.mmt_slots.specs.Lines.{first_of, crowd, IsNoLater, IsTaken, IsCrowded}
use Rattle.mmt_slots.proofs.Counting.{count-permutation, count-yes, count-rest}

-- since some slot each slot was given to a job that is due at `to` or before and could stand no earlier than in that slot, and those still in line cannot either
pub record IsBusy (slots : Slots) (to from : ℕ) (all left : List Waiting) : Type 0 where
  pub since : ℕ
  pub within : since ≤ from
  pub full : from + crowd slots since to left ≤ since + crowd slots since to all
  pub none_earlier : All (λ w. w.deadline ≤ to → since ≤ first_of slots w) left

-- what is in line is of the jobs, and so it is for each deadline
pub record AreBusy (slots : Slots) (from : ℕ) (all left : List Waiting) : Type 0 where
  pub fewer : (p : Waiting → Bool) → count_by p left ≤ count_by p all
  pub busy : (to : ℕ) → IsBusy slots to from all left

-- at first
pub busy_none : (slots : Slots) (all left : List Waiting) → IsPermutation all left → AreBusy slots 0 all left
busy_none slots all left h = record {
  fewer = λ p. omega (arith, count-permutation p all left h);
  busy = λ to. record { since = 0; within = omega arith; full = omega (arith, count-permutation (λ (w : Waiting). nat_le 0 (first_of slots w) && nat_le w.deadline to) all left h); none_earlier = λ k d l m. omega arith };
}

-- what is left
rest_all : (P : Waiting → Type 0) (old new : List Waiting) (job : Waiting) → IsPermutation old (job ∷ new) → All P old → All P new
rest_all P old new job h a = All-tail P job new (All-permutation P old (job ∷ new) h a)

first_all : (P : Waiting → Type 0) (old new : List Waiting) (job : Waiting) → IsPermutation old (job ∷ new) → All P old → P job
first_all P old new job h a = All-head P job new (All-permutation P old (job ∷ new) h a)

-- one fewer of those that pass, and no more of others
one_fewer : (p : Waiting → Bool) (old new : List Waiting) (job : Waiting) → IsPermutation old (job ∷ new) → p job ≡ true → count_by p old ≡ suc (count_by p new)
one_fewer p old new job h t = sym (count-permutation p old (job ∷ new) h) ∙ count-yes p job new t

no_more : (p : Waiting → Bool) (old new : List Waiting) (job : Waiting) → IsPermutation old (job ∷ new) → count_by p new ≤ count_by p old
no_more p old new job h = omega (arith, count-permutation p old (job ∷ new) h, count-rest p job new)

passes : (a b c d : ℕ) → a ≤ b → c ≤ d → nat_le a b && nat_le c d ≡ true
passes a b c d h k = grind (arith, nat_tests)

-- the job that is taken is due by then
busy_due : (slots : Slots) (to from slot : ℕ) (all old new : List Waiting) (job : Waiting) → AreBusy slots from all old → IsTaken slots from slot job old new → job.deadline ≤ to → IsBusy slots to (slot + 1) all new
busy_due slots to from slot all old new job b t due =
    ⊎_elim
    (λ (l : from < slot).
    let low : slot ≤ first_of slots job = first_all (λ w. slot ≤ first_of slots w) old new job t.taken (t.skipped l) in
    record {
      since = slot;
      within = omega arith;
      full = omega (arith, b.fewer (λ (w : Waiting). nat_le slot (first_of slots w) && nat_le w.deadline to), one_fewer (λ (w : Waiting). nat_le slot (first_of slots w) && nat_le w.deadline to) old new job t.taken (passes slot (first_of slots job) job.deadline to low due));
      none_earlier = λ k d l' m. rest_all (λ w. slot ≤ first_of slots w) old new job t.taken (t.skipped l) k d l';
    })
    (λ (l : slot ≤ from).
    let y : IsBusy slots to from all old = b.busy to in
    let low : y.since ≤ first_of slots job = first_all (λ w. w.deadline ≤ to → y.since ≤ first_of slots w) old new job t.taken y.none_earlier due in
    record {
      since = y.since;
      within = omega (arith, y.within, t.later);
      full = omega (arith, y.full, t.later, one_fewer (λ (w : Waiting). nat_le y.since (first_of slots w) && nat_le w.deadline to) old new job t.taken (passes y.since (first_of slots job) job.deadline to low due));
      none_earlier = rest_all (λ w. w.deadline ≤ to → y.since ≤ first_of slots w) old new job t.taken y.none_earlier;
    })
    (cases_lt from slot)

-- it is due later, so none that is due by then could stand there
busy_later : (slots : Slots) (to from slot : ℕ) (all old new : List Waiting) (job : Waiting) → AreBusy slots from all old → IsTaken slots from slot job old new → to < job.deadline → IsBusy slots to (slot + 1) all new
busy_later slots to from slot all old new job b t late =
    record {
      since = slot + 1;
      within = omega arith;
      full = omega (arith, b.fewer (λ (w : Waiting). nat_le (slot + 1) (first_of slots w) && nat_le w.deadline to), no_more (λ (w : Waiting). nat_le (slot + 1) (first_of slots w) && nat_le w.deadline to) old new job t.taken);
      none_earlier = λ k d l due. later (get_or new k d) due (t.earliest k d l);
    }
  where
    later : (w : Waiting) → w.deadline ≤ to → (first_of slots w ≤ slot → IsNoLater job w) → slot + 1 ≤ first_of slots w
    later w due e = ⊎_elim (λ (l : slot < first_of slots w). omega arith) (λ (l : first_of slots w ≤ slot). absurd (⊎_elim (λ (m : job.deadline < w.deadline). omega arith) (λ (m : (job.deadline ≡ w.deadline) × (job.place ≤ w.place)). omega (arith, m.0)) (e l))) (cases_lt slot (first_of slots w))

-- so it stays
pub busy_more : (slots : Slots) (from slot : ℕ) (all old new : List Waiting) (job : Waiting) → AreBusy slots from all old → IsTaken slots from slot job old new → AreBusy slots (slot + 1) all new
busy_more slots from slot all old new job b t = record {
  fewer = λ p. omega (arith, b.fewer p, no_more p old new job t.taken);
  busy = λ to. ⊎_elim (λ (l : to < job.deadline). busy_later slots to from slot all old new job b t l) (λ (l : job.deadline ≤ to). busy_due slots to from slot all old new job b t l) (cases_lt to job.deadline);
}

passes_at : (a b c : ℕ) → a ≤ b → nat_le a b && (c == c) ≡ true
passes_at a b c h = grind (arith, nat_tests)

-- and a job that comes to its slot too late is one of a crowd
pub late_is_crowded : (slots : Slots) (from slot : ℕ) (all old new : List Waiting) (job : Waiting) → AreBusy slots from all old → IsTaken slots from slot job old new → end_at slots job.deadline ≤ slot → (since : ℕ) × IsCrowded slots since job.deadline all
late_is_crowded slots from slot all old new job b t late =
    ⊎_elim
    (λ (l : from < slot).
    let low : slot ≤ first_of slots job = first_all (λ w. slot ≤ first_of slots w) old new job t.taken (t.skipped l) in (
      slot,
      record {
        crowded = omega (arith, b.fewer (λ (w : Waiting). nat_le slot (first_of slots w) && nat_le w.deadline job.deadline), one_fewer (λ (w : Waiting). nat_le slot (first_of slots w) && nat_le w.deadline job.deadline) old new job t.taken (passes slot (first_of slots job) job.deadline job.deadline low (omega arith)));
        last = omega (arith, b.fewer (λ (w : Waiting). nat_le slot (first_of slots w) && (w.deadline == job.deadline)), one_fewer (λ (w : Waiting). nat_le slot (first_of slots w) && (w.deadline == job.deadline)) old new job t.taken (passes_at slot (first_of slots job) job.deadline low));
      },
    ))
    (λ (l : slot ≤ from).
    let y : IsBusy slots job.deadline from all old = b.busy job.deadline in
    let low : y.since ≤ first_of slots job = first_all (λ w. w.deadline ≤ job.deadline → y.since ≤ first_of slots w) old new job t.taken y.none_earlier (omega arith) in (
      y.since,
      record {
        crowded = omega (arith, y.full, y.within, one_fewer (λ (w : Waiting). nat_le y.since (first_of slots w) && nat_le w.deadline job.deadline) old new job t.taken (passes y.since (first_of slots job) job.deadline job.deadline low (omega arith)));
        last = omega (arith, b.fewer (λ (w : Waiting). nat_le y.since (first_of slots w) && (w.deadline == job.deadline)), one_fewer (λ (w : Waiting). nat_le y.since (first_of slots w) && (w.deadline == job.deadline)) old new job t.taken (passes_at y.since (first_of slots job) job.deadline low));
      },
    ))
    (cases_lt from slot)
