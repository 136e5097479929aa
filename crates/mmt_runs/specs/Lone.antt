-- Lists of one item.
use Rattle.std.specs.Prelude.{◌≡◌, ◌⊎◌, List, [], ◌∷◌, Option, Some, None}

-- the list has this item alone; there is none where it has no item, or two or more
abbrev pub Lone : {X : Type 0} → List X → Option X → Type 0
Lone {X} xs (Some x) = xs ≡ x ∷ []
Lone {X} xs None = (xs ≡ []) ⊎ ((x : X) × (y : X) × (ys : List X) × (xs ≡ x ∷ y ∷ ys))
