-- Copying times one by one to the front of an array.
use Rattle.std.proofs.Common.{◌≡◌, ℕ, ◌+◌, ◌<◌, List, [], ◌∷◌, ◌++◌, length, map, take, slice_set, refl, ap, ◌∙◌, append_assoc}
use Rattle.std.proofs.lemmas.List.{take_more_set}

map_more : {A C : Type 0} (f : A → C) (xs : List A) (x : A) → map f (xs ++ x ∷ []) ≡ map f xs ++ (f x ∷ [])
map_more f [] x = refl
map_more {A} {C} f (y ∷ ys) x = ap (λ (zs : List C). f y ∷ zs) (map_more f ys x)

pub copied_one : {A C : Type 0} (f : A → C) (xs : List A) (n : ℕ) (x : A) (rest all : List C) → n < length xs → map f (take n xs) ++ (f x ∷ rest) ≡ all → map f (take (n + 1) (slice_set xs n x)) ++ rest ≡ all
copied_one {A} {C} f xs n x rest all below e =
    ap (λ (ys : List A). map f ys ++ rest) (take_more_set xs n x below)
    ∙ ap (λ (ys : List C). ys ++ rest) (map_more f (take n xs) x)
    ∙ append_assoc (map f (take n xs)) (f x ∷ []) rest ∙ e
