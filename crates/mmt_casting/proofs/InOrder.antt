-- The packets of a programme, sorted, are those of its cast.
use Rattle.std.proofs.Common.{◌≡◌, ℕ, ◌<◌, ◌≤◌, suc, zero, Bool, true, false, not, ◌||◌, List, [], ◌∷◌, ◌++◌, length, get_or, arith, refl, ap, ap₂, sym, ◌∙◌, ⊎_elim, ◌⊎◌, inl, inr, subst, true≢false}
use Rattle.std.proofs.lemmas.Bool.{cases_Bool, cases_eq}
use Rattle.std.proofs.lemmas.List.Sorted.{IsPermutation-sym, Contains-permutation, sorted_far}
use Rattle.std.proofs.lemmas.Map.Keys.{IsDistinct-IsPermutation}
use Rattle.std.specs.Cmp.{IsStrictWeakOrder}
use Rattle.std.specs.List.{AllByRecursion, Contains, IsDistinct}
use Rattle.std.specs.List.Sorted.{IsPermutation, IsSortedBy}
use Rattle.mmt_cast.proofs.Listing.{IsIn, each-weaker}
use Rattle.mmt_cast.proofs.Numbering.{count-push, from-earlier}
use Rattle.mmt_cast.proofs.Ordering.{InOrder, is-cast, sent-order}
use Rattle.mmt_cast.specs.Casting.{cast_of, count_of_id, is_sent_before, numbered_after, planned, with_number}
use Rattle.mmt_model.proofs.Preceding.{before-either}
use Rattle.mmt_model.specs.Handing.{precedes}
use Rattle.mmt_model.specs.declared.casts.Sent.{Sent}
use Rattle.mmt_model.specs.declared.programmes.Programme.{Programme}

abbrev numbers_of : Sent → List ℕ
numbers_of p = p.at.0 ∷ p.packet_id ∷ p.number ∷ []

-- neither of two packets comes before the other
abbrev ties : Sent → Sent → Bool
ties p q = not (is_sent_before p q || is_sent_before q p)

either-or-same : (p q : Sent) → (numbers_of p ≡ numbers_of q) ⊎ ((is_sent_before p q ≡ true) ⊎ (is_sent_before q p ≡ true))
unfolding is_sent_before
either-or-same p q =
    ⊎_elim
    (λ (a : p.at.0 ≡ q.at.0). ⊎_elim
    (λ (i : p.packet_id ≡ q.packet_id). ⊎_elim
    (λ (n : p.number ≡ q.number). inl (ap₂ (λ x xs. x ∷ xs) a (ap₂ (λ x xs. x ∷ xs) i (ap (λ x. x ∷ []) n))))
    (λ (n : p.number ≡ q.number → ⊥). inr (before-either (numbers_of p) (numbers_of q) refl (λ e. n cc)))
    (cases_eq p.number q.number))
    (λ (i : p.packet_id ≡ q.packet_id → ⊥). inr (before-either (numbers_of p) (numbers_of q) refl (λ e. i cc)))
    (cases_eq p.packet_id q.packet_id))
    (λ (a : p.at.0 ≡ q.at.0 → ⊥). inr (before-either (numbers_of p) (numbers_of q) refl (λ e. a cc)))
    (cases_eq p.at.0 q.at.0)

same-before : (p q r : Sent) → numbers_of p ≡ numbers_of q → is_sent_before p r ≡ is_sent_before q r
unfolding is_sent_before
same-before p q r e = ap (λ xs. precedes xs (numbers_of r)) e

pub sent-weak : IsStrictWeakOrder is_sent_before
sent-weak =
    record {
      one_way = λ p q b. ⊎_elim (λ (t : is_sent_before q p ≡ true). absurd (sent-order.one_way p q b t)) (λ (f : is_sent_before q p ≡ false). f) (cases_Bool (is_sent_before q p));
      chain = λ p q r a b. ⊎_elim
          (λ (t : is_sent_before p r ≡ true). ⊎_elim
          (λ (e : numbers_of p ≡ numbers_of q). absurd (true≢false (sym t ∙ (same-before p q r e ∙ b))))
          (λ (o : (is_sent_before p q ≡ true) ⊎ (is_sent_before q p ≡ true)). ⊎_elim
          (λ (x : is_sent_before p q ≡ true). absurd (true≢false (sym x ∙ a)))
          (λ (x : is_sent_before q p ≡ true). absurd (true≢false (sym (sent-order.through q p r x t) ∙ b)))
          o)
          (either-or-same p q))
          (λ (f : is_sent_before p r ≡ false). f)
          (cases_Bool (is_sent_before p r));
    }

-- ---- no two packets of a programme tie

not-either : (a b : Bool) → (a ≡ true) ⊎ (b ≡ true) → not (a || b) ≡ false
not-either true b o = refl
not-either false true o = refl
not-either false false o = ⊎_elim (λ (e : false ≡ true). absurd (true≢false (sym e))) (λ (e : false ≡ true). absurd (true≢false (sym e))) o

never-tie : (p q : Sent) → (p.packet_id ≡ q.packet_id → p.number < q.number) → ties p q ≡ false
never-tie p q h =
    not-either (is_sent_before p q) (is_sent_before q p)
    (⊎_elim (λ (e : numbers_of p ≡ numbers_of q). (let n : p.number ≡ q.number = cc in let i : p.packet_id ≡ q.packet_id = cc in absurd (omega (arith, h i, n)))) (λ (o : (is_sent_before p q ≡ true) ⊎ (is_sent_before q p ≡ true)). o) (either-or-same p q))

distinct-from : (e xs : List Sent) → IsDistinct ties (numbered_after e xs)
unfolding numbered_after with_number IsDistinct
distinct-from e [] = tt
distinct-from e (x ∷ xs) = (
  each-weaker (λ q. count_of_id q.packet_id (e ++ x ∷ []) ≤ q.number) (λ q. ties (with_number x (count_of_id x.packet_id e)) q ≡ false) (numbered_after (e ++ x ∷ []) xs)
      (λ q l. never-tie (with_number x (count_of_id x.packet_id e)) q (λ i. omega (arith, l, count-push x.packet_id x e refl, ap (λ k. count_of_id k (e ++ x ∷ [])) i))) (from-earlier (e ++ x ∷ []) xs),
  distinct-from (e ++ x ∷ []) xs,
)

distinct-planned : (programme : Programme) → IsDistinct ties (planned programme)
unfolding planned
distinct-planned programme = distinct-from [] _

or-flips : (a b : Bool) → not (a || b) ≡ not (b || a)
or-flips true true = refl
or-flips true false = refl
or-flips false true = refl
or-flips false false = refl

tie-flips : (p q : Sent) → ties p q ≡ ties q p
tie-flips p q = or-flips (is_sent_before p q) (is_sent_before q p)

-- ---- a sorted list without ties is in order

first-of-two : (a b : Bool) → not (a || b) ≡ false → b ≡ false → a ≡ true
first-of-two true b e f = refl
first-of-two false true e f = absurd (true≢false f)
first-of-two false false e f = absurd (true≢false e)

all-after : (x : Sent) (xs : List Sent) → AllByRecursion (λ y. ties x y ≡ false) xs → ((j : ℕ) (d : Sent) → j < length xs → is_sent_before (get_or xs j d) x ≡ false) → AllByRecursion (λ y. is_sent_before x y ≡ true) xs
all-after x [] all far = tt
all-after x (y ∷ ys) all far = (first-of-two (is_sent_before x y) (is_sent_before y x) all.0 (far 0 y (omega arith)), all-after x ys all.1 (λ j d l. far (suc j) d (omega arith)))

in-order-from : (ys : List Sent) → IsDistinct ties ys → ((i j : ℕ) (d : Sent) → i ≤ j → j < length ys → is_sent_before (get_or ys j d) (get_or ys i d) ≡ false) → InOrder is_sent_before ys
unfolding IsDistinct
in-order-from [] distinct far = tt
in-order-from (y ∷ ys) distinct far =
    (all-after y ys distinct.0 (λ j d l. far 0 (suc j) d (omega arith) (omega arith)), in-order-from ys distinct.1 (λ i j d l m. far (suc i) (suc j) d (omega arith) (omega arith)))

-- ---- what stands in a list

contains-in : (z : Sent) (xs : List Sent) (k : ℕ) → k < length xs → get_or xs k z ≡ z → IsIn z xs
contains-in z [] k l e = absurd (omega arith)
contains-in z (x ∷ xs) zero l e = inl e
contains-in z (x ∷ xs) (suc k) l e = inr (contains-in z xs k (omega arith) e)

in-contains : (z : Sent) (xs : List Sent) → IsIn z xs → Contains xs z
in-contains z [] i = elim i [ ]
in-contains z (x ∷ xs) (inl e) = (0, omega arith, e)
in-contains z (x ∷ xs) (inr i) = let c = in-contains z xs i in (suc c.0, omega (arith, c.1), c.2)

in-from : (z : Sent) (xs : List Sent) → Contains xs z → IsIn z xs
in-from z xs c = contains-in z xs c.0 c.1 c.2

pub sorted-is-cast : (programme : Programme) (xs ys : List Sent) → xs ≡ planned programme → IsPermutation xs ys → IsSortedBy is_sent_before ys → ys ≡ (cast_of programme).packets
sorted-is-cast programme xs ys same moved sorted =
    is-cast programme ys
    (in-order-from ys (IsDistinct-IsPermutation ties tie-flips xs ys moved (subst (IsDistinct ties) (sym same) (distinct-planned programme))) (sorted_far is_sent_before sent-weak ys sorted))
    (λ p i. subst (IsIn p) same (in-from p xs (Contains-permutation ys xs p (IsPermutation-sym xs ys moved) (in-contains p ys i))))
    (λ p i. in-from p ys (Contains-permutation xs ys p moved (in-contains p xs (subst (IsIn p) (sym same) i))))
