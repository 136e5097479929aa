-- Signalling messages of a plan (this project's rules).
use Rattle.std.specs.Prelude.{ℕ, ◌+◌, ◌-◌, ◌^◌, Bool, true, false, ◌&&◌, ◌||◌, ◌==◌, nat_lt, List, [], ◌∷◌, codes, Option, Some, None, option_and_then, Result, Ok, Err, if◌then◌else◌}
use Rattle.std.specs.Str.{bytes_eq}
use Rattle.serde_json.specs.Data.{Data}
use Rattle.serde_json.specs.Find.{as_str}
use Rattle.mmt_base.specs.declared.ticks.LongTick.{LongTick}
use Rattle.mmt_model.specs.declared.programmes.Signal.{Signal}
use Rattle.mmt_model.specs.declared.programmes.Signal.TheVariants as signals
use Rattle.mmt_plan.specs.Aus.{as_pair_in}
use Rattle.mmt_plan.specs.Members.{is_object_at, right_member, number_at, list_from_at, no_other_at}
use Rattle.mmt_plan.specs.Places.{refused, spot_of}
use Rattle.mmt_plan.specs.Reading.{◌>>=◌, or_refuse}
use Rattle.mmt_plan.specs.declared.ends.PlanPart.TheVariants as parts
use Rattle.mmt_plan.specs.declared.ends.Reason.TheVariants.{Value}
use Rattle.mmt_plan.specs.declared.ends.Refusal.{Refusal}
use Rattle.mmt_plan.specs.declared.spots.Spot.{Spot}

-- the places of an asset and of an MPU in it; where they are wrong, the member that names them is
unfoldable pub pair_at : Spot → ℕ → Data → Result (ℕ × ℕ) Refusal
pair_at s n d = or_refuse (refused Value 3 s) (as_pair_in (2 ^ 32 - 1) d)

-- a pair is above another by its first number and then by its second, or there is no other
abbrev pub is_above : Option (ℕ × ℕ) → ℕ × ℕ → Bool
is_above None p = true
is_above (Some q) p = nat_lt q.0 p.0 || ((q.0 == p.0) && nat_lt q.1 p.1)

-- each pair is above the one before it, and the first is above one that may be there
abbrev pub rises_after : Option (ℕ × ℕ) → List (ℕ × ℕ) → Bool
rises_after last [] = true
rises_after last (p ∷ ps) = is_above last p && rises_after (Some p) ps

-- the MPUs that a table names, strictly rising
unfoldable pub names_at : Spot → Data → Result (List (ℕ × ℕ)) Refusal
names_at s d = do
  names ← list_from_at pair_at 0 s 3 (codes "names") d
  if rises_after None names then Ok names else Err (refused Value 3 s)

-- whether a kind is that of tables, where it is a kind
abbrev pub as_kind : Data → Option Bool
as_kind d = option_and_then (λ kind. if bytes_eq kind (codes "table") then Some true else (if bytes_eq kind (codes "parameters") then Some false else None)) (as_str d)

-- the message is a table
unfoldable pub is_table_at : Spot → Data → Result Bool Refusal
is_table_at s d = right_member as_kind s 2 (codes "kind") d

-- the buffer message of a tick
unfoldable pub parameters_of : LongTick → Spot → Data → Result Signal Refusal
parameters_of at s d = do
  _ ← no_other_at s (codes "at" ∷ codes "kind" ∷ []) d
  Ok (signals.Parameters at)

-- the table of a tick
unfoldable pub table_of : LongTick → Spot → Data → Result Signal Refusal
table_of at s d = do
  names ← names_at s d
  _ ← no_other_at s (codes "at" ∷ codes "kind" ∷ codes "names" ∷ []) d
  Ok (signals.Table at names)

-- the message of a kind and a tick
abbrev pub message_of : Bool → LongTick → Spot → Data → Result Signal Refusal
message_of true = table_of
message_of false = parameters_of

-- the signalling message that a value is, at its spot
unfoldable pub signal_of : Spot → Data → Result Signal Refusal
signal_of s d = do
  _ ← is_object_at s d
  at ← number_at 0 (2 ^ 47) s 1 (codes "at") d
  is_table ← is_table_at s d
  message_of is_table (record { 0 = s.start + at }) s d

-- the signalling message of a number
abbrev pub signal_at : Spot → ℕ → Data → Result Signal Refusal
signal_at s n d = signal_of (spot_of parts.Signal n s) d
