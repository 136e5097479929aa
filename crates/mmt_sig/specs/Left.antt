-- The messages that bytes have left.
use Rattle.std.specs.Prelude.{ℕ, Bool, true, false, List, [], ◌∷◌}
use Rattle.mmt_fields.specs.Items.{all_items}
use Rattle.mmt_sig.specs.PayloadReading.{message_at}

-- one message that takes the rest, or messages after their lengths up to the first that does not fit
abbrev pub left : Bool → Bool → ℕ → List ℕ → List (List ℕ)
left true long at bytes = bytes ∷ []
left false long at bytes = (all_items (message_at long) at bytes).items
