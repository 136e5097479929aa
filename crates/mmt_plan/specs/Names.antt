-- Names of files, in the order in which they were first seen (this project's rules).
use Rattle.std.specs.Prelude.{ℕ, List, [], ◌∷◌, ◌++◌, if◌then◌else◌}
use Rattle.std.specs.List.{list_any, position_or_len}
use Rattle.std.specs.Str.{bytes_eq}

-- the number of a file by its name: its place among the names, or the next one
abbrev pub place_of : List ℕ → List (List ℕ) → ℕ
place_of name names = position_or_len (bytes_eq name) names

-- the names with one more, which goes last where it is new
abbrev pub with_name : List ℕ → List (List ℕ) → List (List ℕ)
with_name name names = if list_any (bytes_eq name) names then names else names ++ name ∷ []
