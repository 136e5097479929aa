-- Inserting into a list in an order.
use Rattle.std.proofs.Common.{◌≡◌, ℕ, ◌+◌, Bool, true, false, ◌==◌, cond, List, [], ◌∷◌, map, arith, refl, ap, sum_by}
use Rattle.std.proofs.lemmas.List.Sums.{sum_by-cons}
use Rattle.mmt_model.specs.Counts.{as_number, occurrences}
use Rattle.mmt_model.specs.Sorted.{insert_by}

pub occurrences-insert : (b : ℕ → ℕ → Bool) (u x : ℕ) (xs : List ℕ) → occurrences u (insert_by b x xs) ≡ as_number (x == u) + occurrences u xs
unfolding insert_by
occurrences-insert b u x [] = refl
occurrences-insert b u x (y ∷ ys) = go (b y x) (occurrences-insert b u x ys)
  where
    go : (t : Bool) → occurrences u (insert_by b x ys) ≡ as_number (x == u) + occurrences u ys → occurrences u (cond t (y ∷ insert_by b x ys) (x ∷ y ∷ ys)) ≡ as_number (x == u) + (as_number (y == u) + occurrences u ys)
    go true ih = omega (arith, ih)
    go false ih = refl

pub insert-map : {X : Type 0} (before : X → X → Bool) (f : ℕ → X) (x : ℕ) (xs : List ℕ)
    → insert_by before (f x) (map f xs) ≡ map f (insert_by (λ u v. before (f u) (f v)) x xs)
unfolding insert_by
insert-map before f x [] = refl
insert-map before f x (y ∷ ys) = go (before (f y) (f x)) (insert-map before f x ys)
  where
    go : (b : Bool) → insert_by before (f x) (map f ys) ≡ map f (insert_by (λ u v. before (f u) (f v)) x ys)
        → cond b (f y ∷ insert_by before (f x) (map f ys)) (f x ∷ f y ∷ map f ys) ≡ map f (cond b (y ∷ insert_by (λ u v. before (f u) (f v)) x ys) (x ∷ y ∷ ys))
    go true ih = ap (λ l. f y ∷ l) ih
    go false ih = refl

pub sum-insert : {X : Type 0} (b : X → X → Bool) (f : X → ℕ) (x : X) (xs : List X) → sum_by f (insert_by b x xs) ≡ sum_by f xs + f x
unfolding insert_by
sum-insert b f x [] = omega (arith, sum_by-cons f x [])
sum-insert b f x (y ∷ ys) = go (b y x) (sum-insert b f x ys)
  where
    go : (t : Bool) → sum_by f (insert_by b x ys) ≡ sum_by f ys + f x → sum_by f (cond t (y ∷ insert_by b x ys) (x ∷ y ∷ ys)) ≡ sum_by f (y ∷ ys) + f x
    go true ih = omega (arith, ih, sum_by-cons f y (insert_by b x ys), sum_by-cons f y ys)
    go false ih = omega (arith, sum_by-cons f x (y ∷ ys))
