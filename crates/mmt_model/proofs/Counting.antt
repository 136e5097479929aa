-- How often a number stands in a list.
use Rattle.std.proofs.Common.{◌≡◌, ℕ, ◌+◌, Bool, true, false, ◌||◌, ◌==◌, nat_lt, cond, List, [], ◌∷◌, ◌++◌, arith, refl, ap, sym, ◌∙◌, filter}
use Rattle.std.specs.List.{list_any}
use Rattle.std.proofs.lemmas.Bool.Decides.{nat_tests}
use Rattle.mmt_model.specs.Counts.{as_number, occurrences}

pub occurrences-push : (n : ℕ) (ks : List ℕ) (k : ℕ) → occurrences n (ks ++ k ∷ []) ≡ occurrences n ks + as_number (k == n)
occurrences-push n [] k = omega arith
occurrences-push n (j ∷ ks) k = omega (arith, occurrences-push n ks k)

pub cond-zero : (c : Bool) → ◌≡◌ {A = ℕ} (cond c 0 0) 0
cond-zero true = refl
cond-zero false = refl

as_number-eq : (k n : ℕ) (p : ℕ → Bool) (b : Bool) → p k ≡ b → (e : Bool) → (k == n) ≡ e → cond (p n) (as_number e) 0 ≡ cond b (as_number e) 0
as_number-eq k n p b is true eq = let same : k ≡ n = grind (arith, nat_tests) in rw (sym (ap p same) ∙ is) refl
as_number-eq k n p true is false eq = cond-zero (p n)
as_number-eq k n p false is false eq = cond-zero (p n)

pub occurrences-filter : (n : ℕ) (p : ℕ → Bool) (ks : List ℕ) → occurrences n (filter p ks) ≡ cond (p n) (occurrences n ks) 0
occurrences-filter n p [] = sym (cond-zero (p n))
occurrences-filter n p (k ∷ ks) = go (p k) refl (p n) refl (occurrences-filter n p ks) (as_number-eq k n p (p k) refl (k == n) refl)
  where
    go : (b : Bool) → p k ≡ b → (c : Bool) → p n ≡ c → occurrences n (filter p ks) ≡ cond (p n) (occurrences n ks) 0
        → cond (p n) (as_number (k == n)) 0 ≡ cond (p k) (as_number (k == n)) 0
        → occurrences n (cond (p k) (k ∷ filter p ks) (filter p ks)) ≡ cond (p n) (as_number (k == n) + occurrences n ks) 0
    go true b true c ih e = let ih' = rw c at ih in rw (b, c) (ap (λ x. as_number (k == n) + x) ih')
    go true b false c ih e = let ih' = rw c at ih in let e' = rw (b, c) at e in rw (b, c) (omega (arith, ih', e'))
    go false b true c ih e = let ih' = rw c at ih in let e' = rw (b, c) at e in rw (b, c) (omega (arith, ih', e'))
    go false b false c ih e = let ih' = rw c at ih in rw (b, c) ih'

pub any-occurrences : (n : ℕ) (ks : List ℕ) → list_any (λ k. k == n) ks ≡ nat_lt 0 (occurrences n ks)
any-occurrences n [] = refl
any-occurrences n (k ∷ ks) = go (k == n) (any-occurrences n ks)
  where
    go : (b : Bool) → list_any (λ k. k == n) ks ≡ nat_lt 0 (occurrences n ks) → (b || list_any (λ k. k == n) ks) ≡ nat_lt 0 (as_number b + occurrences n ks)
    go true ih = grind (arith, nat_tests)
    go false ih = ih ∙ ap (nat_lt 0) (omega arith)
