-- Numbers of at most four digits, by each of their digits.
use Rattle.std.specs.Prelude.{ℕ, ◌+◌, ◌/◌, ◌%◌, ◌^◌, ◌<◌, ◌≤◌, ◌≡◌, List, [], ◌∷◌, ◌++◌, decimal}
use Rattle.std.proofs.Common.{arith, ap, ◌∙◌}
use Rattle.std.proofs.lemmas.Fmt.{decimal_digit, decimal_step}

-- the last decimal digit of a number
abbrev pub digit : ℕ → ℕ
digit n = 48 + n % 10

pub one : (n : ℕ) → n < 10 → decimal n ≡ digit n ∷ []
one n short = decimal_digit n short ∙ ap (λ x. (48 + x) ∷ []) (omega arith)

pub more : (n : ℕ) (front : List ℕ) → 10 ≤ n → n < 2 ^ 64 → decimal (n / 10) ≡ front → decimal n ≡ front ++ (digit n ∷ [])
more n front low short same = decimal_step n low short ∙ ap (λ x. x ++ (digit n ∷ [])) same

pub two : (n : ℕ) → 10 ≤ n → n < 100 → n < 2 ^ 64 → decimal n ≡ digit (n / 10) ∷ digit n ∷ []
two n low high short = more n _ low short (one (n / 10) (omega arith))

pub three : (n : ℕ) → 100 ≤ n → n < 1000 → n < 2 ^ 64 → decimal n ≡ digit (n / 10 / 10) ∷ digit (n / 10) ∷ digit n ∷ []
three n low high short = more n _ (omega arith) short (two (n / 10) (omega arith) (omega arith) (omega arith))

pub four : (n : ℕ) → 1000 ≤ n → n < 10000 → n < 2 ^ 64
    → decimal n ≡ digit (n / 10 / 10 / 10) ∷ digit (n / 10 / 10) ∷ digit (n / 10) ∷ digit n ∷ []
four n low high short = more n _ (omega arith) short (three (n / 10) (omega arith) (omega arith) (omega arith))
