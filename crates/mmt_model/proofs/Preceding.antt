-- The order of lists of numbers.
use Rattle.std.proofs.Common.{◌≡◌, ℕ, ◌<◌, Bool, true, ◌&&◌, ◌||◌, ◌==◌, ◌⊎◌, inl, inr, nat_lt, List, [], ◌∷◌, length, arith, refl, ap₂, sym, ◌∙◌, ⊎_elim, true≢false}
use Rattle.std.proofs.lemmas.Bool.{eq-eqb, lt-ltb, ltb-true, eqb-true, cases_order, and_parts, and_from, or_cases, or_left, or_right}
use Rattle.mmt_model.specs.Handing.{precedes}

before-cases : (x y : ℕ) (s : Bool) → (nat_lt x y || ((x == y) && s)) ≡ true → (x < y) ⊎ ((x ≡ y) × (s ≡ true))
before-cases x y s h =
    ⊎_elim
    (λ (t : nat_lt x y ≡ true). inl (ltb-true x y t))
    (λ (t : ((x == y) && s) ≡ true). let p = and_parts (x == y) s t in inr (eqb-true x y p.0, p.1))
    (or_cases (nat_lt x y) ((x == y) && s) h)

pub before-lt : (x y : ℕ) (s : Bool) → x < y → (nat_lt x y || ((x == y) && s)) ≡ true
before-lt x y s l = or_left (nat_lt x y) ((x == y) && s) (lt-ltb x y l)

before-eq : (x y : ℕ) (s : Bool) → x ≡ y → s ≡ true → (nat_lt x y || ((x == y) && s)) ≡ true
before-eq x y s e t = or_right (nat_lt x y) ((x == y) && s) (and_from (x == y) s (eq-eqb x y e) t)

-- the order of rows of numbers
pub before-one_way : (xs ys : List ℕ) → precedes xs ys ≡ true → precedes ys xs ≡ true → ⊥
unfolding precedes
before-one_way [] ys a b = true≢false (sym a)
before-one_way (x ∷ xs) [] a b = true≢false (sym a)
before-one_way (x ∷ xs) (y ∷ ys) a b =
    ⊎_elim
    (λ (l : x < y). ⊎_elim (λ (m : y < x). omega arith) (λ (m : (y ≡ x) × (precedes ys xs ≡ true)). omega (arith, m.0)) (before-cases y x (precedes ys xs) b))
    (λ (l : (x ≡ y) × (precedes xs ys ≡ true)). ⊎_elim (λ (m : y < x). omega (arith, l.0)) (λ (m : (y ≡ x) × (precedes ys xs ≡ true)). before-one_way xs ys l.1 m.1) (before-cases y x (precedes ys xs) b))
    (before-cases x y (precedes xs ys) a)

pub before-through : (xs ys zs : List ℕ) → precedes xs ys ≡ true → precedes ys zs ≡ true → precedes xs zs ≡ true
unfolding precedes
before-through [] ys zs a b = absurd (true≢false (sym a))
before-through (x ∷ xs) [] zs a b = absurd (true≢false (sym a))
before-through (x ∷ xs) (y ∷ ys) [] a b = absurd (true≢false (sym b))
before-through (x ∷ xs) (y ∷ ys) (z ∷ zs) a b =
    ⊎_elim
    (λ (l : x < y). ⊎_elim (λ (m : y < z). before-lt x z (precedes xs zs) (omega arith)) (λ (m : (y ≡ z) × (precedes ys zs ≡ true)). before-lt x z (precedes xs zs) (omega (arith, m.0))) (before-cases y z (precedes ys zs) b))
    (λ (l : (x ≡ y) × (precedes xs ys ≡ true)). ⊎_elim
    (λ (m : y < z). before-lt x z (precedes xs zs) (omega (arith, l.0)))
    (λ (m : (y ≡ z) × (precedes ys zs ≡ true)). before-eq x z (precedes xs zs) (l.0 ∙ m.0) (before-through xs ys zs l.1 m.1)) (before-cases y z (precedes ys zs) b))
    (before-cases x y (precedes xs ys) a)

pub before-either : (xs ys : List ℕ) → length xs ≡ length ys → (xs ≡ ys → ⊥) → (precedes xs ys ≡ true) ⊎ (precedes ys xs ≡ true)
unfolding precedes
before-either [] [] l ne = absurd (ne refl)
before-either [] (y ∷ ys) l ne = absurd (omega arith)
before-either (x ∷ xs) [] l ne = absurd (omega arith)
before-either (x ∷ xs) (y ∷ ys) l ne =
    ⊎_elim
    (λ (e : x ≡ y). ⊎_elim
    (λ (t : precedes xs ys ≡ true). inl (before-eq x y (precedes xs ys) e t))
    (λ (t : precedes ys xs ≡ true). inr (before-eq y x (precedes ys xs) (sym e) t))
    (before-either xs ys (omega arith) (λ f. ne (ap₂ (λ a l. a ∷ l) e f))))
    (λ (o : (x < y) ⊎ (y < x)). ⊎_elim
    (λ (lt : x < y). inl (before-lt x y (precedes xs ys) lt))
    (λ (gt : y < x). inr (before-lt y x (precedes ys xs) gt)) o)
    (cases_order x y)
