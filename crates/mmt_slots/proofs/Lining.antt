-- The jobs in line, while they are released and taken.
use Rattle.std.proofs.Common.{◌≡◌, ℕ, ◌+◌, ◌<◌, ◌≤◌, Bool, true, false, List, [], ◌∷◌, ◌++◌, length, get_or, drop, map, refl, ap, arith, subst, sym, ◌∙◌, inl, inr, ⊎_elim, cond, nat_lt, ◌==◌}
use Rattle.std.specs.List.{All, Contains}
use Rattle.std.specs.List.Sorted.{IsPermutation, IsNonDecreasingBy}
use Rattle.std.specs.BinaryHeap.{IsUpperBound}
use Rattle.std.specs.declared.cmp.Reverse.{Reverse}
use Rattle.std.proofs.lemmas.List.{length-drop, get_or-drop, get_or_default}
use Rattle.std.proofs.lemmas.List.Elements.{All-head, All-nil, All-cons, All-append}
use Rattle.std.proofs.lemmas.List.Sorted.{IsPermutation-trans, IsPermutation-middle, IsPermutation-map, IsPermutation-append_left, All-permutation, Contains-permutation}
use Rattle.std.proofs.lemmas.Bool.Decides.{nat_tests}
use Rattle.std.specs.Ordering.{is_lt, nat_cmp, ordering_then}
use Rattle.std.specs.declared.cmp.Ordering.TheVariants.{Less, Equal, Greater}
use Rattle.mmt_slots.specs.declared.row.Slots.{Slots}
use Rattle.mmt_slots.specs.declared.line.Waiting.{Waiting}
use Rattle.mmt_slots.specs.Lines.{first_of, order_of, CanStand, IsNoLater, IsTaken}
use Rattle.mmt_slots.proofs.Counting.{at_contained}
use Rattle.mmt_slots.proofs.Rows.{first-later}
use Rattle.mmt_slots.proofs.Searching.{drop_at, sorted_rest}

-- two readings of one place are the same
pub same_read : (order : List Waiting) (at : ℕ) (x y : Waiting) → at < length order → x ≡ get_or order at x → y ≡ get_or order at y → x ≡ y
same_read order at x y l e f = e ∙ get_or_default order at x y l ∙ sym f

-- one more is released
pub release_one : (heap heap' : List (Reverse Waiting)) (at : ℕ) (order : List Waiting) (x : Waiting) → at < length order → x ≡ get_or order at x → IsPermutation (record { 0 = x } ∷ heap) heap' → IsPermutation (map (λ r. r.0) heap ++ drop at order) (map (λ r. r.0) heap' ++ drop (at + 1) order)
release_one heap heap' at order x l same h =
    let r : Reverse Waiting = record { 0 = x } in
    let rest : List Waiting = drop (at + 1) order in
    let old : List Waiting = map (λ (r : Reverse Waiting). r.0) heap in
    let new : List Waiting = map (λ (r : Reverse Waiting). r.0) heap' in
    let e : drop at order ≡ x ∷ rest = drop_at order at x l ∙ ap (λ (y : Waiting). y ∷ rest) (sym same) in
    subst (λ (xs : List Waiting). IsPermutation (old ++ xs) (new ++ rest)) (sym e)
    (IsPermutation-trans (old ++ x ∷ rest) (x ∷ (old ++ rest)) (new ++ rest) (IsPermutation-middle old x rest) (IsPermutation-append_left rest (x ∷ old) new (IsPermutation-map (λ (r : Reverse Waiting). r.0) (r ∷ heap) heap' h)))

-- a released job is taken
pub take_one : (heap heap' : List (Reverse Waiting)) (r : Reverse Waiting) (rest : List Waiting) → IsPermutation heap (r ∷ heap') → IsPermutation (map (λ r. r.0) heap ++ rest) (r.0 ∷ (map (λ r. r.0) heap' ++ rest))
take_one heap heap' r rest h = IsPermutation-append_left rest (map (λ (r : Reverse Waiting). r.0) heap) (r.0 ∷ map (λ (r : Reverse Waiting). r.0) heap') (IsPermutation-map (λ (r : Reverse Waiting). r.0) heap (r ∷ heap') h)

-- from the first slot of the next in the order on, all can stand
pub none_sooner : (slots : Slots) (order : List Waiting) (at : ℕ) (x : Waiting) → 1 ≤ slots.step → IsNonDecreasingBy (λ w. w.release) order → at < length order → x ≡ get_or order at x → All (λ w. first_of slots x ≤ first_of slots w) (drop at order)
none_sooner slots order at x step sorted l same k e m = first-later slots x.release (get_or (drop at order) k e).release step (subst (λ (y : Waiting). y.release ≤ (get_or (drop at order) k e).release) (sym same) (sorted_rest order at x sorted l k e m))

-- where the next in the order cannot stand in a slot, no later one can
pub none_later : (slots : Slots) (order : List Waiting) (at slot : ℕ) (x : Waiting) → 1 ≤ slots.step → IsNonDecreasingBy (λ w. w.release) order → at < length order → x ≡ get_or order at x → slot < first_of slots x → All (λ w. slot < first_of slots w) (drop at order)
none_later slots order at slot x step sorted l same h k e m = omega (arith, none_sooner slots order at x step sorted l same k e m)

pub none_left : (P : Waiting → Type 0) (order : List Waiting) (at : ℕ) → length order ≤ at → All P (drop at order)
none_left P order at l k e m = absurd (omega (arith, length-drop at order))

-- where none is released, those in line are those in the order
pub all_unreleased : (P : Waiting → Type 0) (heap : List (Reverse Waiting)) (rest : List Waiting) → length heap ≡ 0 → All P rest → All P (map (λ r. r.0) heap ++ rest)
all_unreleased P [] rest e a = a
all_unreleased P (r ∷ heap) rest e a = absurd (omega arith)

pub first_unreleased : (heap : List (Reverse Waiting)) (order : List Waiting) (at : ℕ) (x : Waiting) → length heap ≡ 0 → at < length order → x ≡ get_or order at x → Contains (map (λ r. r.0) heap ++ drop at order) x
first_unreleased [] order at x e l same = let z : at + 0 ≡ at = omega arith in (0, omega (arith, length-drop at order), get_or-drop at order 0 x ∙ ap (λ (n : ℕ). get_or order n x) z ∙ sym same)
first_unreleased (r ∷ heap) order at x e l same = absurd (omega arith)

-- a released job can stand
pub released_can : (slots : Slots) (from : ℕ) (heap : List (Reverse Waiting)) (rest : List Waiting) → 0 < length heap → All (λ r. first_of slots r.0 ≤ from) heap → CanStand slots from (map (λ r. r.0) heap ++ rest)
released_can slots from [] rest l a = absurd (omega arith)
released_can slots from (r ∷ heap) rest l a = inr (r.0, (0, omega arith, refl), a 0 r (omega arith))

-- by the order, none goes before the one that is not less than it
no_later : (a b : Waiting) → is_lt (order_of b a) ≡ false → IsNoLater a b
no_later a b h = go (nat_lt b.deadline a.deadline) refl (b.deadline == a.deadline) refl (nat_lt b.place a.place) refl h
  where
    go : (x : Bool) → nat_lt b.deadline a.deadline ≡ x → (y : Bool) → (b.deadline == a.deadline) ≡ y → (z : Bool) → nat_lt b.place a.place ≡ z
        → is_lt (ordering_then (cond x Less (cond y Equal Greater)) (ordering_then (cond z Less (cond (b.place == a.place) Equal Greater)) (nat_cmp b.release a.release))) ≡ false → IsNoLater a b
    go true e y f z g h = absurd cc
    go false e true f true g h = absurd cc
    go false e true f false g h = inr (grind (arith, nat_tests), grind (arith, nat_tests))
    go false e false f z g h = inl (grind (arith, nat_tests))

-- the job that goes first of the released is taken
pub is_taken : (slots : Slots) (from slot : ℕ) (old : List Waiting) (heap heap' : List (Reverse Waiting)) (rest : List Waiting) (top : Reverse Waiting)
    → IsPermutation old (map (λ r. r.0) heap ++ rest) → IsPermutation heap (top ∷ heap') → from ≤ slot → All (λ r. first_of slots r.0 ≤ slot) heap → IsUpperBound (λ x y. order_of y.0 x.0) top heap' → All (λ w. slot < first_of slots w) rest → (from < slot → All (λ w. slot ≤ first_of slots w) old)
    → IsTaken slots from slot top.0 old (map (λ r. r.0) heap' ++ rest)
is_taken slots from slot old heap heap' rest top same pop later can above after skipped = record {
  taken = IsPermutation-trans old (map (λ (r : Reverse Waiting). r.0) heap ++ rest) (top.0 ∷ (map (λ (r : Reverse Waiting). r.0) heap' ++ rest)) same (take_one heap heap' top rest pop);
  later = later;
  can = All-head (λ r. first_of slots r.0 ≤ slot) top heap' (All-permutation (λ r. first_of slots r.0 ≤ slot) heap (top ∷ heap') pop can);
  earliest = All-append (λ w. first_of slots w ≤ slot → IsNoLater top.0 w) (map (λ (r : Reverse Waiting). r.0) heap') rest (goes_first heap' above) (λ k d l c. absurd (omega (arith, after k d l)));
  skipped = skipped;
}
  where
    goes_first : (hs : List (Reverse Waiting)) → IsUpperBound (λ x y. order_of y.0 x.0) top hs → All (λ w. first_of slots w ≤ slot → IsNoLater top.0 w) (map (λ (r : Reverse Waiting). r.0) hs)
    goes_first [] a = All-nil (λ w. first_of slots w ≤ slot → IsNoLater top.0 w)
    goes_first (r ∷ hs) a = All-cons (λ w. first_of slots w ≤ slot → IsNoLater top.0 w) r.0 (map (λ (r : Reverse Waiting). r.0) hs) (λ c. no_later top.0 r.0 a.0) (goes_first hs a.1)

-- where none is released at a slot from which on some job could stand, the line is empty
pub is_empty : (slots : Slots) (slot : ℕ) (old : List Waiting) (heap : List (Reverse Waiting)) (rest : List Waiting) → CanStand slots slot old → IsPermutation old (map (λ r. r.0) heap ++ rest) → length heap ≡ 0 → All (λ w. slot < first_of slots w) rest → old ≡ []
is_empty slots slot old heap rest can same e after =
    ⊎_elim
    (λ (n : old ≡ []). n)
    (λ (s : (w : Waiting) × Contains old w × (first_of slots w ≤ slot)).
    let a : All (λ w. slot < first_of slots w) (map (λ (r : Reverse Waiting). r.0) heap ++ rest) = all_unreleased (λ w. slot < first_of slots w) heap rest e after in
    absurd (omega (arith, s.2, at_contained (λ w. slot < first_of slots w) (map (λ (r : Reverse Waiting). r.0) heap ++ rest) s.0 a (Contains-permutation old (map (λ (r : Reverse Waiting). r.0) heap ++ rest) s.0 same s.1))))
    can
