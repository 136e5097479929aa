-- Access units of a plan, and pairs of numbers (this project's rules).
use Rattle.std.specs.Prelude.{ℕ, Option, None, option_map, option_and_then, Result}
use Rattle.serde_json.specs.Data.{Data, Items, no_items, item}
use Rattle.serde_json.specs.Find.{as_array}
use Rattle.mmt_model.specs.declared.programmes.Au.{Au}
use Rattle.mmt_plan.specs.Members.{as_number_in}
use Rattle.mmt_plan.specs.Places.{refused, spot_of}
use Rattle.mmt_plan.specs.Reading.{or_refuse}
use Rattle.mmt_plan.specs.declared.ends.PlanPart.TheVariants as parts
use Rattle.mmt_plan.specs.declared.ends.Reason.TheVariants.{Value}
use Rattle.mmt_plan.specs.declared.ends.Refusal.{Refusal}
use Rattle.mmt_plan.specs.declared.spots.Spot.{Spot}

-- the two numbers that an array is
abbrev pub two_numbers : ℕ → Items → Option (ℕ × ℕ)
two_numbers most no_items = None
two_numbers most (item x no_items) = None
two_numbers most (item x (item y no_items)) = option_and_then (λ a. option_map (λ b. (a, b)) (as_number_in 0 most y)) (as_number_in 0 most x)
two_numbers most (item x (item y (item z ds))) = None

-- the pair of numbers up to a greatest one that a value is
unfoldable pub as_pair_in : ℕ → Data → Option (ℕ × ℕ)
as_pair_in most d = option_and_then (two_numbers most) (as_array d)

-- the access unit of a pair of numbers
abbrev pub au_of : ℕ × ℕ → Au
au_of p = record { dts_pts = p.0; pts = p.1 }

-- the access unit of a number in the MPU at a spot
unfoldable pub au_at : Spot → ℕ → Data → Result Au Refusal
au_at s n d = or_refuse (refused Value 0 (spot_of parts.Au n s)) (option_map au_of (as_pair_in 65535 d))
