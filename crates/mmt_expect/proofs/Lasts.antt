-- Which of the first places one is, and the lesser of two numbers.
use Rattle.std.proofs.Common.{◌≡◌, ◌⊎◌, ℕ, ◌<◌, ◌≤◌, suc, min, inl, inr, arith, ⊎_elim}
use Rattle.std.proofs.lemmas.Bool.{cases_lt}

pub last-or : (n i : ℕ) → n < suc i → (n ≡ i) ⊎ (n < i)
last-or n i l = ⊎_elim (λ (a : n < i). inr a) (λ (b : i ≤ n). inl (omega (arith, b, l))) (cases_lt n i)

pub either : (x y due : ℕ) → min x y < due → (x < due) ⊎ (y < due)
either x y due h = ⊎_elim (λ (a : x < due). inl a) (λ (b : due ≤ x). inr (omega (arith, b, h))) (cases_lt x due)
