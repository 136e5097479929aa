-- How many units fit, step by step, and that they are the most.
use Rattle.std.proofs.Common.{◌≡◌, ℕ, ◌+◌, ◌-◌, ◌<◌, ◌≤◌, zero, suc, Bool, true, false, cond, nat_le, List, [], ◌∷◌, length, get_or, take, drop, max, arith, refl, ap, ◌∙◌}
use Rattle.std.proofs.lemmas.Bool.{le-leb, lt-leb, leb-true, leb-false}
use Rattle.std.proofs.lemmas.List.{drop_all, drop_more}
use Rattle.std.proofs.lemmas.List.Sums.{sum_by-cons}
use Rattle.mmt_frag.specs.Cuts.{fitting, gathered}
use Rattle.mmt_frag.specs.Laws.{GathersMost, gathered_bytes}

pub fitting-goes_on : (header room : ℕ) (xs : List ℕ) (i : ℕ) → i < length xs → 2 + header + get_or xs i 0 ≤ room
    → fitting header room (drop i xs) ≡ suc (fitting header (room - (2 + header + get_or xs i 0)) (drop (i + 1) xs))
unfolding fitting
fitting-goes_on header room xs i l fits =
    let x : ℕ = get_or xs i 0 in
    ap (fitting header room) (drop_more xs i 0 l)
    ∙ ap (λ (t : Bool). cond t (suc (fitting header (room - (2 + header + x)) (drop (i + 1) xs))) 0) (le-leb (2 + header + x) room fits)

pub fitting-stops : (header room : ℕ) (xs : List ℕ) (i : ℕ) → i < length xs → room < 2 + header + get_or xs i 0 → fitting header room (drop i xs) ≡ 0
unfolding fitting
fitting-stops header room xs i l long =
    let x : ℕ = get_or xs i 0 in
    ap (fitting header room) (drop_more xs i 0 l)
    ∙ ap (λ (t : Bool). cond t (suc (fitting header (room - (2 + header + x)) (drop (i + 1) xs))) 0) (lt-leb (2 + header + x) room long)

pub fitting-ends : (header room : ℕ) (xs : List ℕ) (i : ℕ) → length xs ≤ i → fitting header room (drop i xs) ≡ 0
unfolding fitting
fitting-ends header room xs i l = ap (fitting header room) (drop_all i xs l)

-- those that fit go into the room, and more do not
bytes-cons : (header x n : ℕ) (xs : List ℕ) → gathered_bytes header (x ∷ xs) (suc n) ≡ 2 + header + x + gathered_bytes header xs n
bytes-cons header x n xs = sum_by-cons (λ l. 2 + header + l) x (take n xs)

fits : (header room : ℕ) (xs : List ℕ) → gathered_bytes header xs (fitting header room xs) ≤ room
unfolding fitting
fits header room [] = omega arith
fits header room (x ∷ xs) = go (nat_le (2 + header + x) room) refl (fits header (room - (2 + header + x)) xs)
  where
    go : (t : Bool) → nat_le (2 + header + x) room ≡ t → gathered_bytes header xs (fitting header (room - (2 + header + x)) xs) ≤ room - (2 + header + x)
        → gathered_bytes header (x ∷ xs) (cond t (suc (fitting header (room - (2 + header + x)) xs)) 0) ≤ room
    go true e ih = omega (arith, ih, bytes-cons header x (fitting header (room - (2 + header + x)) xs) xs, leb-true (2 + header + x) room e)
    go false e ih = omega arith

passes : (header room : ℕ) (xs : List ℕ) (n : ℕ) → fitting header room xs < n → n ≤ length xs → room < gathered_bytes header xs n
unfolding fitting
passes header room [] n l b = absurd (omega arith)
passes header room (x ∷ xs) zero l b = absurd (omega arith)
passes header room (x ∷ xs) (suc n) l b = go (nat_le (2 + header + x) room) refl l (passes header (room - (2 + header + x)) xs n)
  where
    go : (t : Bool) → nat_le (2 + header + x) room ≡ t → cond t (suc (fitting header (room - (2 + header + x)) xs)) 0 < suc n
        → (fitting header (room - (2 + header + x)) xs < n → n ≤ length xs → room - (2 + header + x) < gathered_bytes header xs n) → room < gathered_bytes header (x ∷ xs) (suc n)
    go true e l ih = omega (arith, bytes-cons header x n xs, ih (omega arith) (omega arith), leb-true (2 + header + x) room e)
    go false e l ih = omega (arith, bytes-cons header x n xs, leb-false (2 + header + x) room e)

fitting-le : (header room : ℕ) (xs : List ℕ) → fitting header room xs ≤ length xs
unfolding fitting
fitting-le header room [] = omega arith
fitting-le header room (x ∷ xs) = go (nat_le (2 + header + x) room) (fitting-le header (room - (2 + header + x)) xs)
  where
    go : (t : Bool) → fitting header (room - (2 + header + x)) xs ≤ length xs → cond t (suc (fitting header (room - (2 + header + x)) xs)) 0 ≤ suc (length xs)
    go true ih = omega arith
    go false ih = omega arith

pub gathers-most : GathersMost
unfolding gathered
gathers-most header limit [] some = absurd (omega arith)
gathers-most header limit (x ∷ xs) some =
    let f : ℕ = fitting header limit (x ∷ xs) in (
      omega arith,
      omega (arith, fitting-le header limit (x ∷ xs)),
      (λ more. (let e : max 1 f ≡ f = omega arith in omega (arith, ap (gathered_bytes header (x ∷ xs)) e, fits header limit (x ∷ xs)))),
      (λ n l b. passes header limit (x ∷ xs) n (omega arith) b),
    )

pub gathered-none : (header limit : ℕ) (xs : List ℕ) → length xs ≡ 0 → gathered header limit xs ≡ 0
unfolding gathered
gathered-none header limit [] e = refl
gathered-none header limit (x ∷ xs) e = absurd (omega arith)

pub gathered-some : (header limit : ℕ) (xs : List ℕ) → 0 < length xs → gathered header limit xs ≡ max 1 (fitting header limit xs)
unfolding gathered
gathered-some header limit [] l = absurd (omega arith)
gathered-some header limit (x ∷ xs) l = refl
