-- Options with a number, by their words.
use Rattle.std.specs.Prelude.{◌≡◌, ◌≢◌, ◌⊎◌, ℕ, ◌+◌, ◌≤◌, List, ◌∷◌, decimal}

-- The words from a place on aren't this option with a number in this range: its name isn't there, or the number isn't after it. The index is the place of the first that isn't.
abbrev pub NoOption : List ℕ → ℕ → ℕ → ℕ → List (List ℕ) → ℕ → Type 0
NoOption name low high at words index = ((index ≡ at) × ((more : List (List ℕ)) → words ≢ name ∷ more))
    ⊎ ((index ≡ at + 1) × (rest : List (List ℕ)) × (words ≡ name ∷ rest) × ((n : ℕ) (more : List (List ℕ)) → low ≤ n → n ≤ high → rest ≢ decimal n ∷ more))
