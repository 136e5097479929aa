-- A list that has each number at most once sums to no more than all the numbers that it may have.
use Rattle.std.proofs.Common.{◌≡◌, ℕ, ◌+◌, ◌*◌, ◌<◌, ◌≤◌, zero, suc, Bool, true, false, ◌==◌, cond, List, [], ◌∷◌, length, get_or, arith, refl, sym, ⊎_elim, filter, sum_by}
use Rattle.std.proofs.lemmas.Bool.{cases_eq, eq-eqb, ne_eqb}
use Rattle.std.proofs.lemmas.List.Sums.{sum_by-cons}
use Rattle.mmt_model.specs.Counts.{as_number, occurrences}

-- f 0 + .. + f (n - 1)
abbrev pub upto : (ℕ → ℕ) → ℕ → ℕ
upto f zero = 0
upto f (suc n) = upto f n + f n

abbrev pub AllBelow : ℕ → List ℕ → Type 0
AllBelow n [] = Unit {0}
AllBelow n (k ∷ ks) = (k < n) × AllBelow n ks

upto-add : (f g : ℕ → ℕ) (n : ℕ) → upto (λ k. f k + g k) n ≡ upto f n + upto g n
upto-add f g zero = refl
upto-add f g (suc n) = omega (arith, upto-add f g n)

upto-zero : (f : ℕ → ℕ) (n : ℕ) → ((k : ℕ) → k < n → f k ≡ 0) → upto f n ≡ 0
upto-zero f zero h = refl
upto-zero f (suc n) h = omega (arith, upto-zero f n (λ k l. h k (omega arith)), h n (omega arith))

pub upto-le : (f g : ℕ → ℕ) (n : ℕ) → ((k : ℕ) → k < n → f k ≤ g k) → upto f n ≤ upto g n
upto-le f g zero h = omega arith
upto-le f g (suc n) h = omega (arith, upto-le f g n (λ k l. h k (omega arith)), h n (omega arith))

pub upto-first : (f : ℕ → ℕ) (n : ℕ) → upto f (suc n) ≡ f 0 + upto (λ k. f (suc k)) n
upto-first f zero = omega arith
upto-first f (suc n) = omega (arith, upto-first f n)

upto-one : (f : ℕ → ℕ) (p n : ℕ) → p < n → upto (λ k. as_number (p == k) * f k) n ≡ f p
upto-one f p zero l = absurd (omega arith)
upto-one f p (suc n) l =
    ⊎_elim
    (λ (e : p ≡ n).
    let z : upto (λ k. as_number (p == k) * f k) n ≡ 0 = upto-zero (λ k. as_number (p == k) * f k) n (λ k m. rw (ne_eqb p k (omega arith)) (omega arith)) in
    let o : as_number (p == n) * f n ≡ f p = rw (eq-eqb p n e, e) (omega arith) in
    omega arith)
    (λ (ne : p ≡ n → ⊥).
    let ih : upto (λ k. as_number (p == k) * f k) n ≡ f p = upto-one f p n (omega arith) in
    let o : as_number (p == n) * f n ≡ 0 = rw (ne_eqb p n ne) (omega arith) in
    omega arith)
    (cases_eq p n)

-- a sum over a list by how often each number stands in it
pub sum_by-occurrences : (f : ℕ → ℕ) (n : ℕ) (ks : List ℕ) → AllBelow n ks → sum_by f ks ≡ upto (λ k. occurrences k ks * f k) n
sum_by-occurrences f n [] b = sym (upto-zero (λ k. 0 * f k) n (λ k l. omega arith))
sum_by-occurrences f n (j ∷ ks) b =
    let ih = sum_by-occurrences f n ks b.1 in
    let e : upto (λ k. (as_number (j == k) + occurrences k ks) * f k) n ≡ upto (λ k. as_number (j == k) * f k + occurrences k ks * f k) n = upto-same (λ k. (as_number (j == k) + occurrences k ks) * f k) (λ k. as_number (j == k) * f k + occurrences k ks * f k) n (λ k. omega arith) in
    omega (arith, sum_by-cons f j ks, ih, e, upto-add (λ k. as_number (j == k) * f k) (λ k. occurrences k ks * f k) n, upto-one f j n b.0)
  where
    upto-same : (g h : ℕ → ℕ) (m : ℕ) → ((k : ℕ) → g k ≡ h k) → upto g m ≡ upto h m
    upto-same g h zero s = refl
    upto-same g h (suc m) s = omega (arith, upto-same g h m s, s m)

-- a sum over a list's elements that pass, by places
sum_by-places : {X : Type 0} (q : X → Bool) (f : X → ℕ) (xs : List X) (d : X) → sum_by f (filter q xs) ≡ upto (λ k. as_number (q (get_or xs k d)) * f (get_or xs k d)) (length xs)
sum_by-places q f [] d = refl
sum_by-places q f (x ∷ xs) d = go (q x) refl (sum_by-places q f xs d)
  where
    go : (b : Bool) → q x ≡ b → sum_by f (filter q xs) ≡ upto (λ k. as_number (q (get_or xs k d)) * f (get_or xs k d)) (length xs)
        → sum_by f (cond (q x) (x ∷ filter q xs) (filter q xs)) ≡ upto (λ k. as_number (q (get_or (x ∷ xs) k d)) * f (get_or (x ∷ xs) k d)) (suc (length xs))
    go true e ih = rw (upto-first (λ k. as_number (q (get_or (x ∷ xs) k d)) * f (get_or (x ∷ xs) k d)) (length xs), e) (omega (arith, sum_by-cons f x (filter q xs), ih))
    go false e ih = rw (upto-first (λ k. as_number (q (get_or (x ∷ xs) k d)) * f (get_or (x ∷ xs) k d)) (length xs), e) (omega (arith, ih))

-- distinct places whose elements all pass sum to no more than all the elements that pass
pub sum_by-le-passing : {X : Type 0} (q : X → Bool) (f : X → ℕ) (xs : List X) (d : X) (ks : List ℕ)
    → AllBelow (length xs) ks → ((k : ℕ) → occurrences k ks ≤ as_number (q (get_or xs k d)))
    → sum_by (λ k. f (get_or xs k d)) ks ≤ sum_by f (filter q xs)
sum_by-le-passing q f xs d ks b h =
    let le : upto (λ k. occurrences k ks * f (get_or xs k d)) (length xs) ≤ upto (λ k. as_number (q (get_or xs k d)) * f (get_or xs k d)) (length xs) =
    upto-le (λ k. occurrences k ks * f (get_or xs k d)) (λ k. as_number (q (get_or xs k d)) * f (get_or xs k d)) (length xs) (λ k l. grind (arith, h k)) in
    omega (arith, sum_by-occurrences (λ k. f (get_or xs k d)) (length xs) ks b, sum_by-places q f xs d, le)
