-- The first of some numbers that stood before (this project's rule).
use Rattle.std.specs.Prelude.{ℕ, ◌+◌, nat_eq, List, [], ◌∷◌, ◌++◌, Option, Some, None, if◌then◌else◌}
use Rattle.std.specs.List.{list_any}

-- the place of the first number that stood among the earlier ones, where these numbers follow them and the first has this place
unfoldable pub first_twice : List ℕ → ℕ → List ℕ → Option ℕ
first_twice earlier n [] = None
first_twice earlier n (x ∷ xs) = if list_any (nat_eq x) earlier then Some n else first_twice (earlier ++ x ∷ []) (n + 1) xs
