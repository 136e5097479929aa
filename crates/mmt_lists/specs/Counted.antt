-- A list whose length was read before it, as tables, assets or locations, and the places of items in what was read.
use Rattle.std.specs.Prelude.{ℕ, zero, suc, ◌+◌, ◌-◌, List, [], ◌∷◌, length, Option, Some, None, Result, Ok, Err}
use Rattle.mmt_base.specs.declared.refused.Refused.{Refused}
use Rattle.mmt_fields.specs.Items.{unless_stopped}

-- so many items up to the first refusal, that refusal, and the bytes after the items
pub record Counted (A W : Type 0) : Type 0 where
  pub items : List A
  pub stop : Option (Refused W)
  pub rest : List ℕ

-- one item and those after it, or none and the refusal
abbrev pub then_more : {A W : Type 0} → List ℕ → Result (A × List ℕ) (Refused W) → (A × List ℕ → Counted A W) → Counted A W
then_more bytes (Ok x) others = record { items = x.0 ∷ (others x).items; stop = (others x).stop; rest = (others x).rest }
then_more bytes (Err e) others = record { items = []; stop = Some e; rest = bytes }

-- the first so many items of the bytes, each read by `one` at its place
unfoldable pub counted : {A W : Type 0} → ℕ → (ℕ → List ℕ → Result (A × List ℕ) (Refused W)) → ℕ → List ℕ → Counted A W
counted zero one at bytes = record { items = []; stop = None; rest = bytes }
counted (suc n) one at bytes = then_more bytes (one at bytes) (λ x. counted n one (at + (length bytes - length x.1)) x.1)

-- exactly so many items and the bytes after them, or the first refusal
unfoldable pub counted_of : {A W : Type 0} → ℕ → (ℕ → List ℕ → Result (A × List ℕ) (Refused W)) → ℕ → List ℕ → Result (List A × List ℕ) (Refused W)
counted_of n one at bytes = unless_stopped (counted n one at bytes).stop ((counted n one at bytes).items, (counted n one at bytes).rest)
