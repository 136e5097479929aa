-- The search for the first release from which on there are more jobs than slots.
use Rattle.std.proofs.Common.{◌≡◌, ℕ, ◌+◌, ◌-◌, ◌<◌, ◌≤◌, Bool, true, false, ◌&&◌, ◌==◌, nat_le, List, [], ◌∷◌, length, get_or, drop, drop-cons, add-one, get_or-drop, length-drop, ap, arith, subst, sym, ◌∙◌, ⊎_elim, cond}
use Rattle.std.specs.List.{All, count_by}
use Rattle.std.specs.List.Sorted.{IsNonDecreasingBy}
use Rattle.std.proofs.Math.ListN.{drop_of_length-le}
use Rattle.std.proofs.lemmas.List.{get_or_default}
use Rattle.std.proofs.lemmas.List.Sums.{sum_by-take-drop}
use Rattle.std.proofs.lemmas.Bool.Decides.{nat_tests}
use Rattle.std.proofs.lemmas.Bool.{cases_lt}
use Rattle.mmt_slots.specs.declared.row.Slots.{Slots}
use Rattle.mmt_slots.specs.declared.line.Waiting.{Waiting}
use Rattle.mmt_slots.specs.Row.{end_at}
use Rattle.mmt_slots.specs.Lines.{first_of, crowd, waiting_within, IsCrowded, IsFound}
use Rattle.mmt_slots.proofs.Counting.{count-implied, count-yes, count-no}

count_drop : (p : Waiting → Bool) (i : ℕ) (xs : List Waiting) → count_by p (drop i xs) ≤ count_by p xs
count_drop p i xs = omega (arith, sum_by-take-drop (λ (x : Waiting). cond (p x) 1 0) xs i)

-- what is found in the rest of the list is found in the list
pub found_in : (slots : Slots) (order : List Waiting) (i from to : ℕ) → IsFound slots (drop i order) from to → IsFound slots order from to
found_in slots order i from to f = record {
  overfull = omega (arith, f.overfull, count_drop (λ (w : Waiting). nat_le from w.release && nat_le w.deadline to) i order);
  first = omega (arith, f.first, count_drop (λ (w : Waiting). (w.release == from) && nat_le w.deadline to) i order);
  last = omega (arith, f.last, count_drop (λ (w : Waiting). nat_le from w.release && (w.deadline == to)) i order);
}

not_due : (a b c d : ℕ) → d < c → nat_le a b && nat_le c d ≡ false
not_due a b c d h = grind (arith, nat_tests)

not_at : (a b c d : ℕ) → d < c → nat_le a b && (c == d) ≡ false
not_at a b c d h = grind (arith, nat_tests)

too_early : (a b c d : ℕ) → b < a → nat_le a b && nat_le c d ≡ false
too_early a b c d h = grind (arith, nat_tests)

too_early_at : (a b c d : ℕ) → b < a → nat_le a b && (c == d) ≡ false
too_early_at a b c d h = grind (arith, nat_tests)

-- a job that is due later is none of the crowd
pub crowded_without : (slots : Slots) (slot to : ℕ) (job : Waiting) (rest : List Waiting) → to < job.deadline → IsCrowded slots slot to (job ∷ rest) → IsCrowded slots slot to rest
crowded_without slots slot to job rest late c = record {
  crowded = omega (arith, c.crowded, count-no (λ (w : Waiting). nat_le slot (first_of slots w) && nat_le w.deadline to) job rest (not_due slot (first_of slots job) job.deadline to late));
  last = omega (arith, c.last, count-no (λ (w : Waiting). nat_le slot (first_of slots w) && (w.deadline == to)) job rest (not_at slot (first_of slots job) job.deadline to late));
}

due_anyway : (a b c d e : ℕ) → nat_le a b && nat_le c d ≡ true → nat_le 0 e && nat_le c d ≡ true
due_anyway a b c d e h = grind (arith, nat_tests)

crowd_is_due : (slots : Slots) (slot to : ℕ) (order : List Waiting) → crowd slots slot to order ≤ waiting_within order 0 to
crowd_is_due slots slot to order = count-implied (λ (w : Waiting). nat_le slot (first_of slots w) && nat_le w.deadline to) (λ (w : Waiting). nat_le 0 w.release && nat_le w.deadline to) order (λ k d l. due_anyway slot (first_of slots (get_or order k d)) (get_or order k d).deadline to (get_or order k d).release)

-- nor is one from which on there are slots enough
pub crowded_after : (slots : Slots) (slot to : ℕ) (job : Waiting) (rest : List Waiting) → waiting_within (job ∷ rest) 0 to ≤ end_at slots to - first_of slots job → IsCrowded slots slot to (job ∷ rest) → IsCrowded slots slot to rest
crowded_after slots slot to job rest enough c =
    ⊎_elim
    (λ (early : first_of slots job < slot). record {
      crowded = omega (arith, c.crowded, count-no (λ (w : Waiting). nat_le slot (first_of slots w) && nat_le w.deadline to) job rest (too_early slot (first_of slots job) job.deadline to early));
      last = omega (arith, c.last, count-no (λ (w : Waiting). nat_le slot (first_of slots w) && (w.deadline == to)) job rest (too_early_at slot (first_of slots job) job.deadline to early));
    })
    (λ (in' : slot ≤ first_of slots job). absurd (omega (arith, c.crowded, crowd_is_due slots slot to (job ∷ rest))))
    (cases_lt (first_of slots job) slot)

-- no crowd is empty
pub crowded_none : (slots : Slots) (slot to : ℕ) → IsCrowded slots slot to [] → ⊥
crowded_none slots slot to c = omega (arith, c.crowded)

within_all : (a b c d e : ℕ) → a ≤ b → nat_le 0 e && nat_le c d ≡ true → nat_le a b && nat_le c d ≡ true
within_all a b c d e l h = grind (arith, nat_tests)

last_all : (a b c d e f : ℕ) → a ≤ b → nat_le e f && (c == d) ≡ true → nat_le a b && (c == d) ≡ true
last_all a b c d e f l h = grind (arith, nat_tests)

at_itself : (a c d : ℕ) → c ≤ d → (a == a) && nat_le c d ≡ true
at_itself a c d l = grind (arith, nat_tests)

-- and from the first from which on there are too few slots, the interval is found
pub found_here : (slots : Slots) (slot to : ℕ) (job : Waiting) (rest : List Waiting) → All (λ w. job.release ≤ w.release) (job ∷ rest) → job.deadline ≤ to → end_at slots to - first_of slots job < waiting_within (job ∷ rest) 0 to → IsCrowded slots slot to (job ∷ rest) → IsFound slots (job ∷ rest) job.release to
found_here slots slot to job rest sorted due few c = record {
  overfull = omega (arith, count-implied (λ (w : Waiting). nat_le 0 w.release && nat_le w.deadline to) (λ (w : Waiting). nat_le job.release w.release && nat_le w.deadline to) (job ∷ rest) (λ k d l. within_all job.release (get_or (job ∷ rest) k d).release (get_or (job ∷ rest) k d).deadline to (get_or (job ∷ rest) k d).release (sorted k d l)));
  first = omega (arith, count-yes (λ (w : Waiting). (w.release == job.release) && nat_le w.deadline to) job rest (at_itself job.release job.deadline to due));
  last = omega (arith, c.last, count-implied (λ (w : Waiting). nat_le slot (first_of slots w) && (w.deadline == to)) (λ (w : Waiting). nat_le job.release w.release && (w.deadline == to)) (job ∷ rest) (λ k d l. last_all job.release (get_or (job ∷ rest) k d).release (get_or (job ∷ rest) k d).deadline to slot (first_of slots (get_or (job ∷ rest) k d)) (sorted k d l)));
}

-- the rest of a list from a place on
pub drop_at : (order : List Waiting) (i : ℕ) (d : Waiting) → i < length order → drop i order ≡ get_or order i d ∷ drop (i + 1) order
drop_at order i d l = drop-cons order i d l ∙ ap (λ (n : ℕ). get_or order i d ∷ drop n order) (sym (add-one i))

-- those are released no earlier than the first of them
pub sorted_rest : (order : List Waiting) (i : ℕ) (d : Waiting) → IsNonDecreasingBy (λ w. w.release) order → i < length order → All (λ w. (get_or order i d).release ≤ w.release) (drop i order)
sorted_rest order i d sorted l k e m =
    let f : get_or (drop i order) k e ≡ get_or order (i + k) e = get_or-drop i order k e in
    let g : get_or order i d ≡ get_or order i e = get_or_default order i d e l in
    rw (f, g) (sorted i (i + k) e (omega arith) (omega (arith, length-drop i order, m)))

-- the steps of the search, at place i
pub search_found : (slots : Slots) (order : List Waiting) (i slot to jobs : ℕ) (d : Waiting) → IsNonDecreasingBy (λ w. w.release) order → i < length order → (get_or order i d).deadline ≤ to → jobs ≡ waiting_within (drop i order) 0 to → end_at slots to - first_of slots (get_or order i d) < jobs → IsCrowded slots slot to (drop i order) → IsFound slots order (get_or order i d).release to
search_found slots order i slot to jobs d sorted l due e few c =
    let f : drop i order ≡ get_or order i d ∷ drop (i + 1) order = drop_at order i d l in
    let c' : IsCrowded slots slot to (get_or order i d ∷ drop (i + 1) order) = subst (λ xs. IsCrowded slots slot to xs) f c in
    let few' : end_at slots to - first_of slots (get_or order i d) < waiting_within (get_or order i d ∷ drop (i + 1) order) 0 to = subst (λ xs. end_at slots to - first_of slots (get_or order i d) < waiting_within xs 0 to) f (omega arith) in
    let s' : All (λ w. (get_or order i d).release ≤ w.release) (get_or order i d ∷ drop (i + 1) order) = subst (λ xs. All (λ w. (get_or order i d).release ≤ w.release) xs) f (sorted_rest order i d sorted l) in
    found_in slots order i (get_or order i d).release to (subst (λ xs. IsFound slots xs (get_or order i d).release to) (sym f) (found_here slots slot to (get_or order i d) (drop (i + 1) order) s' due few' c'))

pub search_more : (slots : Slots) (order : List Waiting) (i slot to jobs : ℕ) (d : Waiting) → i < length order → (get_or order i d).deadline ≤ to → jobs ≡ waiting_within (drop i order) 0 to → jobs ≤ end_at slots to - first_of slots (get_or order i d) → IsCrowded slots slot to (drop i order) → (jobs - 1 ≡ waiting_within (drop (i + 1) order) 0 to) × IsCrowded slots slot to (drop (i + 1) order)
search_more slots order i slot to jobs d l due e enough c =
    let f : drop i order ≡ get_or order i d ∷ drop (i + 1) order = drop_at order i d l in
    let c' : IsCrowded slots slot to (get_or order i d ∷ drop (i + 1) order) = subst (λ xs. IsCrowded slots slot to xs) f c in
    let e' : jobs ≡ waiting_within (get_or order i d ∷ drop (i + 1) order) 0 to = subst (λ xs. jobs ≡ waiting_within xs 0 to) f e in (
      omega (arith, count-yes (λ (w : Waiting). nat_le 0 w.release && nat_le w.deadline to) (get_or order i d) (drop (i + 1) order) (is_due (get_or order i d).release (get_or order i d).deadline due)),
      crowded_after slots slot to (get_or order i d) (drop (i + 1) order) (omega arith) c',
    )
  where
    is_due : (a b : ℕ) → b ≤ to → nat_le 0 a && nat_le b to ≡ true
    is_due a b h = grind (arith, nat_tests)

pub search_later : (slots : Slots) (order : List Waiting) (i slot to jobs : ℕ) (d : Waiting) → i < length order → to < (get_or order i d).deadline → jobs ≡ waiting_within (drop i order) 0 to → IsCrowded slots slot to (drop i order) → (jobs ≡ waiting_within (drop (i + 1) order) 0 to) × IsCrowded slots slot to (drop (i + 1) order)
search_later slots order i slot to jobs d l late e c =
    let f : drop i order ≡ get_or order i d ∷ drop (i + 1) order = drop_at order i d l in
    let c' : IsCrowded slots slot to (get_or order i d ∷ drop (i + 1) order) = subst (λ xs. IsCrowded slots slot to xs) f c in
    let e' : jobs ≡ waiting_within (get_or order i d ∷ drop (i + 1) order) 0 to = subst (λ xs. jobs ≡ waiting_within xs 0 to) f e in (
      omega (arith, count-no (λ (w : Waiting). nat_le 0 w.release && nat_le w.deadline to) (get_or order i d) (drop (i + 1) order) (not_due 0 (get_or order i d).release (get_or order i d).deadline to late)),
      crowded_without slots slot to (get_or order i d) (drop (i + 1) order) late c',
    )

-- it does not come to the end
pub search_ends : (slots : Slots) (order : List Waiting) (i slot to : ℕ) → length order ≤ i → IsCrowded slots slot to (drop i order) → ⊥
search_ends slots order i slot to l c = crowded_none slots slot to (subst (λ xs. IsCrowded slots slot to xs) (drop_of_length-le order l) c)
