-- A list of the packets of a programme in the strict order of a cast is the cast's list, however it was sorted.
use Rattle.std.proofs.Common.{◌≡◌, ℕ, ◌<◌, ◌≤◌, Bool, true, false, ◌⊎◌, inl, inr, cond, List, [], ◌∷◌, ◌++◌, arith, refl, ap, ap₂, sym, ◌∙◌, ⊎_elim, subst, true≢false}
use Rattle.std.specs.List.{AllByRecursion}
use Rattle.mmt_cast.proofs.Listing.{IsIn, each-from, each-in, each-weaker, in-sort}
use Rattle.mmt_cast.proofs.Numbering.{count-push, from-earlier}
use Rattle.mmt_cast.specs.Casting.{cast_of, count_of_id, is_sent_before, numbered_after, planned, with_number}
use Rattle.mmt_model.proofs.Preceding.{before-either, before-one_way, before-through}
use Rattle.mmt_model.specs.Sorted.{insert_by, sort_by}
use Rattle.mmt_model.specs.declared.casts.Sent.{Sent}
use Rattle.mmt_model.specs.declared.programmes.Programme.{Programme}

-- each item comes before all later ones
abbrev pub InOrder : {X : Type 0} → (X → X → Bool) → List X → Type 0
InOrder before [] = Unit {0}
InOrder before (x ∷ xs) = AllByRecursion (λ y. before x y ≡ true) xs × InOrder before xs

-- ---- two lists in order with the same items are one

later : {X : Type 0} (x : X) (y : X) (ys : List X) → IsIn x (y ∷ ys) → (x ≡ y → ⊥) → IsIn x ys
later x y ys (inl e) ne = absurd (ne (sym e))
later x y ys (inr i) ne = i

pub one-order : {X : Type 0} (before : X → X → Bool) → ((x y : X) → before x y ≡ true → before y x ≡ true → ⊥) → (xs ys : List X) → InOrder before xs → InOrder before ys
    → ((z : X) → IsIn z xs → IsIn z ys) → ((z : X) → IsIn z ys → IsIn z xs) → xs ≡ ys
one-order before one_way [] [] ox oy f g = refl
one-order before one_way [] (y ∷ ys) ox oy f g = absurd (g y (inl refl))
one-order before one_way (x ∷ xs) [] ox oy f g = absurd (f x (inl refl))
one-order {X} before one_way (x ∷ xs) (y ∷ ys) ox oy f g =
    let same : y ≡ x = heads (f x (inl refl)) (g y (inl refl)) in
    let rest = one-order before one_way xs ys ox.1 oy.1
    (λ z i. later z y ys (f z (inr i)) (λ e. (let b : before x z ≡ true = each-in (λ w. before x w ≡ true) z xs ox.0 i in let b' : before x x ≡ true = subst (λ w. before x w ≡ true) (e ∙ same) b in one_way x x b' b')))
    (λ z i. later z x xs (g z (inr i)) (λ e. (let b : before y z ≡ true = each-in (λ w. before y w ≡ true) z ys oy.0 i in let b' : before y y ≡ true = subst (λ w. before y w ≡ true) (e ∙ sym same) b in one_way y y b' b'))) in
    ap₂ (λ a l. a ∷ l) (sym same) rest
  where
    heads : (y ≡ x) ⊎ IsIn x ys → (x ≡ y) ⊎ IsIn y xs → y ≡ x
    heads (inl e) j = e
    heads (inr i) (inl e) = sym e
    heads (inr i) (inr j) = absurd (one_way y x (each-in (λ w. before y w ≡ true) x ys oy.0 i) (each-in (λ w. before x w ≡ true) y xs ox.0 j))

-- ---- sorting

from-insert : {X : Type 0} (before : X → X → Bool) (z x : X) (xs : List X) → IsIn z (insert_by before x xs) → (x ≡ z) ⊎ IsIn z xs
unfolding insert_by
from-insert before z x [] i = i
from-insert before z x (y ∷ ys) i = go (before y x) (from-insert before z x ys) i
  where
    go : (t : Bool) → (IsIn z (insert_by before x ys) → (x ≡ z) ⊎ IsIn z ys) → IsIn z (cond t (y ∷ insert_by before x ys) (x ∷ y ∷ ys)) → (x ≡ z) ⊎ ((y ≡ z) ⊎ IsIn z ys)
    go true ih (inl e) = inr (inl e)
    go true ih (inr i) = ⊎_elim (λ (e : x ≡ z). inl e) (λ (j : IsIn z ys). inr (inr j)) (ih i)
    go false ih i = i

pub from-sort : {X : Type 0} (before : X → X → Bool) (z : X) (xs : List X) → IsIn z (sort_by before xs) → IsIn z xs
unfolding sort_by
from-sort before z [] i = i
from-sort before z (x ∷ xs) i = ⊎_elim (λ (e : x ≡ z). inl e) (λ (j : IsIn z (sort_by before xs)). inr (from-sort before z xs j)) (from-insert before z x (sort_by before xs) i)

-- an order of the items of a list: no item is before itself, and of two at different places one is before the other
pub record IsOrderOf {X : Type 0} (before : X → X → Bool) : Type 0 where
  pub one_way : (x y : X) → before x y ≡ true → before y x ≡ true → ⊥
  pub through : (x y z : X) → before x y ≡ true → before y z ≡ true → before x z ≡ true

-- of two items at different places one is before the other
abbrev pub Comparable : {X : Type 0} → (X → X → Bool) → List X → Type 0
Comparable before [] = Unit {0}
Comparable before (x ∷ xs) = AllByRecursion (λ y. (before x y ≡ true) ⊎ (before y x ≡ true)) xs × Comparable before xs

order-insert : {X : Type 0} (before : X → X → Bool) → IsOrderOf before → (x : X) (xs : List X) → InOrder before xs → AllByRecursion (λ y. (before x y ≡ true) ⊎ (before y x ≡ true)) xs → InOrder before (insert_by before x xs)
unfolding insert_by
order-insert before o x [] i c = (tt, tt)
order-insert {X} before o x (y ∷ ys) i c = go (before y x) refl (order-insert before o x ys i.1 c.1)
  where
    go : (t : Bool) → before y x ≡ t → InOrder before (insert_by before x ys) → InOrder before (cond t (y ∷ insert_by before x ys) (x ∷ y ∷ ys))
    go true e ih = (each-from (λ z. before y z ≡ true) (insert_by before x ys) (λ z j. ⊎_elim (λ (s : x ≡ z). subst (λ w. before y w ≡ true) s e) (λ (k : IsIn z ys). each-in (λ w. before y w ≡ true) z ys i.0 k) (from-insert before z x ys j)), ih)
    go false e ih =
        let first : before x y ≡ true = ⊎_elim (λ (b : before x y ≡ true). b) (λ (b : before y x ≡ true). absurd (true≢false (sym b ∙ e))) c.0 in
        ((first, each-weaker (λ z. before y z ≡ true) (λ z. before x z ≡ true) ys (λ z b. o.through x y z first b) i.0), i)

pub order-sort : {X : Type 0} (before : X → X → Bool) → IsOrderOf before → (xs : List X) → Comparable before xs → InOrder before (sort_by before xs)
unfolding sort_by
order-sort before o [] c = tt
order-sort {X} before o (x ∷ xs) c =
    order-insert before o x (sort_by before xs) (order-sort before o xs c.1)
    (each-from (λ y. (before x y ≡ true) ⊎ (before y x ≡ true)) (sort_by before xs) (λ z i. each-in (λ y. (before x y ≡ true) ⊎ (before y x ≡ true)) z xs c.0 (from-sort before z xs i)))

-- ---- the packets of a programme

abbrev numbers_of : Sent → List ℕ
numbers_of p = p.at.0 ∷ p.packet_id ∷ p.number ∷ []

pub sent-order : IsOrderOf is_sent_before
unfolding is_sent_before
sent-order = record { one_way = λ p q a b. before-one_way (numbers_of p) (numbers_of q) a b; through = λ p q r a b. before-through (numbers_of p) (numbers_of q) (numbers_of r) a b }

either-way : (p q : Sent) → (p.packet_id ≡ q.packet_id → p.number < q.number) → (is_sent_before p q ≡ true) ⊎ (is_sent_before q p ≡ true)
unfolding is_sent_before
either-way p q h =
    before-either (numbers_of p) (numbers_of q) refl
    (λ e. (let n : p.number ≡ q.number = cc in let i : p.packet_id ≡ q.packet_id = cc in omega (arith, h i, n)))

comparable-from : (e xs : List Sent) → Comparable is_sent_before (numbered_after e xs)
unfolding numbered_after with_number
comparable-from e [] = tt
comparable-from e (x ∷ xs) = (
  each-weaker (λ q. count_of_id q.packet_id (e ++ x ∷ []) ≤ q.number) (λ q. (is_sent_before (with_number x (count_of_id x.packet_id e)) q ≡ true) ⊎ (is_sent_before q (with_number x (count_of_id x.packet_id e)) ≡ true)) (numbered_after (e ++ x ∷ []) xs)
      (λ q l. either-way (with_number x (count_of_id x.packet_id e)) q (λ i. omega (arith, l, count-push x.packet_id x e refl, ap (λ k. count_of_id k (e ++ x ∷ [])) i))) (from-earlier (e ++ x ∷ []) xs),
  comparable-from (e ++ x ∷ []) xs,
)

-- a list of a programme's packets in the strict order of a cast is the cast's
pub is-cast : (programme : Programme) (ys : List Sent) → InOrder is_sent_before ys → ((p : Sent) → IsIn p ys → IsIn p (planned programme)) → ((p : Sent) → IsIn p (planned programme) → IsIn p ys) → ys ≡ (cast_of programme).packets
unfolding cast_of planned
is-cast programme ys order from to =
    one-order is_sent_before sent-order.one_way ys (sort_by is_sent_before (planned programme)) order
    (order-sort is_sent_before sent-order (planned programme) (comparable-from [] _))
    (λ p i. in-sort is_sent_before p (planned programme) (from p i))
    (λ p i. to p (from-sort is_sent_before p (planned programme) i))
