-- Filtering slots.
use Rattle.std.proofs.Common.{◌≡◌, ℕ, Bool, true, false, not, cond, List, [], ◌∷◌, map, refl, ap, filter}
use Rattle.mmt_base.specs.Ticks.{low, is_passed}
use Rattle.mmt_model.specs.Entries.{Entry, last_due, forget}

pub map_filter : {A B : Type 0} (f : A → B) (p : B → Bool) (xs : List A) → map f (filter (λ x. p (f x)) xs) ≡ filter p (map f xs)
map_filter f p [] = refl
map_filter f p (x ∷ xs) = go (p (f x)) (map_filter f p xs)
  where
    go : (b : Bool) → map f (filter (λ x. p (f x)) xs) ≡ filter p (map f xs) → map f (cond b (x ∷ filter (λ x. p (f x)) xs) (filter (λ x. p (f x)) xs)) ≡ cond b (f x ∷ filter p (map f xs)) (filter p (map f xs))
    go true ih = ap (λ l. f x ∷ l) ih
    go false ih = ih

pub forget_map : {A : Type 0} (f : A → Entry) (from to : ℕ) (xs : List A) → map f (filter (λ x. not (is_passed (low (last_due (f x))) from to)) xs) ≡ forget from to (map f xs)
unfolding forget
forget_map f from to xs = map_filter f (λ e. not (is_passed (low (last_due e)) from to)) xs
