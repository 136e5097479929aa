-- Counts: how often a number stands in a list, and counts in 64 bits.
use Rattle.std.specs.Prelude.{ℕ, ◌+◌, ◌-◌, ◌^◌, min, Bool, true, false, ◌==◌, List, [], ◌∷◌}
use Rattle.std.specs.List.{list_any}

-- 1 where a test passes, and else 0
abbrev pub as_number : Bool → ℕ
as_number true = 1
as_number false = 0

-- how often a number stands in a list. 'Exactly those that pass, each once' is said as: this is `as_number` of the test
abbrev pub occurrences : ℕ → List ℕ → ℕ
occurrences n [] = 0
occurrences n (k ∷ ks) = as_number (k == n) + occurrences n ks

-- a number stands in a list
unfoldable pub member : ℕ → List ℕ → Bool
member n ks = list_any (λ k. k == n) ks

-- a count stays at 2^64 - 1 once it has come to it
abbrev pub counted : ℕ → ℕ
counted n = min n (2 ^ 64 - 1)
