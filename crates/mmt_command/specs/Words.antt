-- Which words are wrong, for any set of commands.
use Rattle.std.specs.Prelude.{◌≡◌, ◌⊎◌, ℕ, ◌+◌, ◌<◌, List, ◌++◌, length, take, map, String, string_bytes}
use Rattle.std.specs.declared.alloc.Global.{Global}

-- the texts of the words
abbrev pub texts : List (String Global) → List (List ℕ)
texts words = map string_bytes words

-- some command begins with these words
abbrev pub BeginsCommand : (List (List ℕ) → Type 0) → List (List ℕ) → Type 0
BeginsCommand commands words = (more : List (List ℕ)) × commands (words ++ more)

-- The words are no command. The index is that of the first word with which none goes on, or their number where they begin one.
pub record IsWrongAt (commands : List (List ℕ) → Type 0) (words : List (List ℕ)) (index : ℕ) : Type 0 where
  pub none : commands words → ⊥
  pub begins : BeginsCommand commands (take index words)
  pub ends : (index ≡ length words) ⊎ ((index < length words) × (BeginsCommand commands (take (index + 1) words) → ⊥))
