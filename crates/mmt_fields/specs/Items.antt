-- Items one after the other up to the end of the bytes, as data units, messages, descriptors or locations.
use Rattle.std.specs.Prelude.{ℕ, zero, suc, ◌+◌, ◌-◌, List, [], ◌∷◌, length, Option, Some, None, Result, Ok, Err}
use Rattle.mmt_base.specs.declared.refused.Refused.{Refused}

-- the items up to the end of the bytes or the first refusal, and that refusal
pub record Walk (A W : Type 0) : Type 0 where
  pub items : List A
  pub stop : Option (Refused W)

-- one item and those after it, or none and the refusal
abbrev pub go_on : {A W : Type 0} → Result (A × List ℕ) (Refused W) → (A × List ℕ → Walk A W) → Walk A W
go_on (Ok x) others = record { items = x.0 ∷ (others x).items; stop = (others x).stop }
go_on (Err e) others = record { items = []; stop = Some e }

-- the walk over at most so many items, each read by `one` at its place
unfoldable pub walk : {A W : Type 0} → ℕ → (ℕ → List ℕ → Result (A × List ℕ) (Refused W)) → ℕ → List ℕ → Walk A W
walk zero one at bytes = record { items = []; stop = None }
walk (suc n) one at [] = record { items = []; stop = None }
walk (suc n) one at (b ∷ bytes) = go_on (one at (b ∷ bytes)) (λ x. walk n one (at + (length (b ∷ bytes) - length x.1)) x.1)

-- the walk over all items, since an item takes a byte or more
abbrev pub all_items : {A W : Type 0} → (ℕ → List ℕ → Result (A × List ℕ) (Refused W)) → ℕ → List ℕ → Walk A W
all_items one at bytes = walk (length bytes) one at bytes

-- a value where there was no refusal, and else the refusal
abbrev pub unless_stopped : {A W : Type 0} → Option (Refused W) → A → Result A (Refused W)
unless_stopped None x = Ok x
unless_stopped (Some e) x = Err e

-- the list of items that the bytes are up to their end, or the first refusal
unfoldable pub items_of : {A W : Type 0} → (ℕ → List ℕ → Result (A × List ℕ) (Refused W)) → ℕ → List ℕ → Result (List A) (Refused W)
items_of one at bytes = unless_stopped (all_items one at bytes).stop (all_items one at bytes).items

-- each item fits at its place
abbrev pub ItemsFit : {A : Type 0} → (A → List ℕ) → (ℕ → A → Type 0) → ℕ → List A → Type 0
ItemsFit spell F at [] = Unit {0}
ItemsFit spell F at (x ∷ xs) = F at x × ItemsFit spell F (at + length (spell x)) xs
