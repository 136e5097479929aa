-- Counts over lists.
use Rattle.std.proofs.Common.{◌≡◌, ℕ, suc, ◌+◌, ◌<◌, ◌≤◌, Bool, true, false, cond, List, [], ◌∷◌, length, get_or, refl, arith, subst, ◌∙◌}
use Rattle.std.specs.List.{All, Contains, count_by}
use Rattle.std.specs.List.Sorted.{IsPermutation}
use Rattle.std.proofs.lemmas.List.Elements.{All-head, All-tail}
use Rattle.std.proofs.lemmas.List.Sums.{sum_by-cons}
use Rattle.std.proofs.lemmas.List.Sorted.{sum_by-IsPermutation}

-- what holds of each element holds of one of them
pub at_contained : {X : Type 0} (P : X → Type 0) (xs : List X) (x : X) → All P xs → Contains xs x → P x
at_contained P xs x all c = subst P c.2 (all c.0 x c.1)

pub count-cons : {X : Type 0} (p : X → Bool) (x : X) (xs : List X) → count_by p (x ∷ xs) ≡ cond (p x) 1 0 + count_by p xs
count-cons p x xs = sum_by-cons (λ x. cond (p x) 1 0) x xs

-- a permutation has the same count
pub count-permutation : {X : Type 0} (p : X → Bool) (xs ys : List X) → IsPermutation xs ys → count_by p ys ≡ count_by p xs
count-permutation p xs ys h = sum_by-IsPermutation (λ x. cond (p x) 1 0) xs ys h

count_one : (b : Bool) (n m : ℕ) → m ≡ cond b 1 0 + n → b ≡ true → m ≡ suc n
count_one true n m e t = omega arith
count_one false n m e t = absurd cc

count_none : (b : Bool) (n m : ℕ) → m ≡ cond b 1 0 + n → b ≡ false → m ≡ n
count_none true n m e t = absurd cc
count_none false n m e t = omega arith

pub count-yes : {X : Type 0} (p : X → Bool) (x : X) (xs : List X) → p x ≡ true → count_by p (x ∷ xs) ≡ suc (count_by p xs)
count-yes p x xs e = count_one (p x) (count_by p xs) _ (count-cons p x xs) e

pub count-no : {X : Type 0} (p : X → Bool) (x : X) (xs : List X) → p x ≡ false → count_by p (x ∷ xs) ≡ count_by p xs
count-no p x xs e = count_none (p x) (count_by p xs) _ (count-cons p x xs) e

count_least : (b : Bool) (n m : ℕ) → m ≡ cond b 1 0 + n → n ≤ m
count_least true n m e = omega arith
count_least false n m e = omega arith

-- a list has no fewer than its rest
pub count-rest : {X : Type 0} (p : X → Bool) (x : X) (xs : List X) → count_by p xs ≤ count_by p (x ∷ xs)
count-rest p x xs = count_least (p x) (count_by p xs) _ (count-cons p x xs)

-- an element that passes is found where some are counted
pub found : {X : Type 0} (p : X → Bool) (xs : List X) → 0 < count_by p xs → (x : X) × Contains xs x × (p x ≡ true)
found p [] h = absurd (omega arith)
found {X} p (x ∷ xs) h = go (p x) refl (λ more. found p xs more)
  where
    go : (b : Bool) → p x ≡ b → (0 < count_by p xs → (y : X) × Contains xs y × (p y ≡ true)) → (y : X) × Contains (x ∷ xs) y × (p y ≡ true)
    go true e later = (x, (0, omega arith, refl), e)
    go false e later = let f : (y : X) × Contains xs y × (p y ≡ true) = later (omega (arith, count-no p x xs e)) in (f.0, (suc f.1.0, omega (arith, f.1.1), f.1.2), f.2)

-- where one test passes, so does another: no fewer
pub count-implied : {X : Type 0} (p q : X → Bool) (xs : List X) → All (λ x. p x ≡ true → q x ≡ true) xs → count_by p xs ≤ count_by q xs
count-implied p q [] h = omega arith
count-implied {X} p q (x ∷ xs) h = go (p x) refl (q x) refl (count-implied p q xs (All-tail (λ y. p y ≡ true → q y ≡ true) x xs h)) (All-head (λ y. p y ≡ true → q y ≡ true) x xs h)
  where
    go : (b : Bool) → p x ≡ b → (c : Bool) → q x ≡ c → count_by p xs ≤ count_by q xs → (p x ≡ true → q x ≡ true) → count_by p (x ∷ xs) ≤ count_by q (x ∷ xs)
    go true e true f ih i = omega (arith, count-yes p x xs e, count-yes q x xs f)
    go true e false f ih i = absurd (let g : q x ≡ true = i e in cc)
    go false e true f ih i = omega (arith, count-no p x xs e, count-yes q x xs f)
    go false e false f ih i = omega (arith, count-no p x xs e, count-no q x xs f)

-- where all pass, all are counted; where none does, none is
pub count-none_of : {X : Type 0} (p : X → Bool) (xs : List X) → All (λ x. p x ≡ false) xs → count_by p xs ≡ 0
count-none_of p [] h = refl
count-none_of p (x ∷ xs) h = count-no p x xs (All-head (λ y. p y ≡ false) x xs h) ∙ count-none_of p xs (All-tail (λ y. p y ≡ false) x xs h)

-- so its place is
pub found_at : {X : Type 0} (p : X → Bool) (d : X) (xs : List X) → 0 < count_by p xs → (i : ℕ) × (i < length xs) × (p (get_or xs i d) ≡ true)
found_at p d [] h = absurd (omega arith)
found_at {X} p d (x ∷ xs) h = go (p x) refl (λ more. found_at p d xs more)
  where
    go : (b : Bool) → p x ≡ b → (0 < count_by p xs → (i : ℕ) × (i < length xs) × (p (get_or xs i d) ≡ true)) → (i : ℕ) × (i < length (x ∷ xs)) × (p (get_or (x ∷ xs) i d) ≡ true)
    go true e later = (0, omega arith, e)
    go false e later = let f : (i : ℕ) × (i < length xs) × (p (get_or xs i d) ≡ true) = later (omega (arith, count-no p x xs e)) in (suc f.0, omega (arith, f.1), f.2)
