-- Reading an MPU payload from left to right, to the value or the first refusal. The fields are those of ISO/IEC 23008-1, the
-- payload header for MPU mode; the order of the checks is this project's rule.
use Rattle.std.specs.Prelude.{ℕ, zero, suc, ◌+◌, ◌-◌, ◌/◌, ◌%◌, Bool, true, false, ◌&&◌, ◌||◌, ◌==◌, nat_le, List, [], ◌∷◌, length, Option, Some, None, Result, Ok, Err}
use Rattle.std.specs.Int.{w8, w16, w32}
use Rattle.mmt_base.specs.declared.refused.Refused.{Refused}
use Rattle.mmt_fields.specs.Reading.{◌>>=◌, number_at, bytes_at, check}
use Rattle.mmt_model.specs.declared.keys.UnitKey.TheVariants.{Timed, Item}
use Rattle.mmt_model.specs.Parts.{part_of}
use Rattle.mmt_mpu.specs.declared.types.MpuWhy.{MpuWhy}
use Rattle.mmt_mpu.specs.declared.types.MpuWhy.TheVariants as why
use Rattle.mmt_mpu.specs.Spelling.{UnitHead, UnitValue, Value, head_length, end_of}

-- a unit's header at a place: the fields of timed media, or the item id (ISO/IEC 23008-1, the data unit header)
unfoldable pub head_at : Bool → ℕ → List ℕ → Result (UnitHead × List ℕ) (Refused MpuWhy)
head_at true at bytes = do
  a ← number_at w32 bytes at why.Short
  b ← number_at w32 a.1 (at + 4) why.Short
  c ← number_at w32 b.1 (at + 8) why.Short
  priority ← number_at w8 c.1 (at + 12) why.Short
  dependency ← number_at w8 priority.1 (at + 13) why.Short
  Ok (record { key = Timed a.0 b.0 c.0; priority = priority.0; dependency = dependency.0 }, dependency.1)
head_at false at bytes = do
  i ← number_at w32 bytes at why.Short
  Ok (record { key = Item i.0; priority = 0; dependency = 0 }, i.1)

-- the unit at a place, its length first, which must hold the header and must not pass the end
unfoldable pub unit_at : Bool → ℕ → List ℕ → Result (UnitValue × List ℕ) (Refused MpuWhy)
unit_at timed at bytes = do
  len ← number_at w16 bytes at why.Short
  whole ← check (nat_le (head_length timed) len.0 && nat_le len.0 (length len.1)) at why.Overrun
  head ← head_at timed (at + 2) len.1
  body ← bytes_at (len.0 - head_length timed) head.1 (at + 2 + head_length timed) why.Short
  Ok (record { head = head.0; from = at + 2 + head_length timed; bytes = body.0 }, body.1)

-- the one unit that takes all the bytes, which must hold its header
unfoldable pub lone_at : Bool → ℕ → List ℕ → Result UnitValue (Refused MpuWhy)
lone_at timed at bytes = do
  whole ← check (nat_le (head_length timed) (length bytes)) at why.Short
  head ← head_at timed at bytes
  Ok (record { head = head.0; from = at + head_length timed; bytes = head.1 })

-- the units up to the end or the first refusal, and that refusal
pub record Walk : Type 0 where
  pub units : List UnitValue
  pub stop : Option (Refused MpuWhy)

-- a unit and those after it, or a refusal and no unit
abbrev pub go_on : Result (UnitValue × List ℕ) (Refused MpuWhy) → (UnitValue × List ℕ → Walk) → Walk
go_on (Ok u) others = record { units = u.0 ∷ (others u).units; stop = (others u).stop }
go_on (Err e) others = record { units = []; stop = Some e }

-- the units one after the other from a place on, at most so many
unfoldable pub walk : ℕ → Bool → ℕ → List ℕ → Walk
walk zero timed at bytes = record { units = []; stop = None }
walk (suc n) timed at [] = record { units = []; stop = None }
walk (suc n) timed at (b ∷ bytes) = go_on (unit_at timed at (b ∷ bytes)) (λ u. walk n timed (end_of u.0) u.1)

-- all the units one after the other from a place on: a unit takes a byte or more, so there are no more units than bytes
abbrev pub all_units : Bool → ℕ → List ℕ → Walk
all_units timed at bytes = walk (length bytes) timed at bytes

-- a value, or the refusal before it
abbrev pub unless_stopped : {A : Type 0} → Option (Refused MpuWhy) → A → Result A (Refused MpuWhy)
unless_stopped None x = Ok x
unless_stopped (Some e) x = Err e

-- the units of a payload after its header: one after the other up to the end, or one that takes all the bytes
unfoldable pub units_of : Bool → Bool → List ℕ → Result (List UnitValue) (Refused MpuWhy)
units_of true timed bytes = unless_stopped (all_units timed 8 bytes).stop (all_units timed 8 bytes).units
units_of false timed bytes = lone_at timed 8 bytes >>= λ u. Ok (u ∷ [])

-- the payload that the bytes are, or the first check that they fail with its place
unfoldable pub payload_of : List ℕ → Result Value (Refused MpuWhy)
payload_of bytes = do
  len ← number_at w16 bytes 0 why.Short
  whole ← check (length len.1 == len.0) 0 why.Length
  flags ← number_at w8 len.1 2 why.Short
  units ← check (nat_le 2 (flags.0 / 16)) 2 (why.Metadata (flags.0 / 16))
  known ← check (nat_le (flags.0 / 16) 2) 2 (why.FragmentType (flags.0 / 16))
  part ← check ((flags.0 % 2 == 0) || (flags.0 / 2 % 4 == 0)) 2 why.AggregatedPart
  counter ← number_at w8 flags.1 3 why.Short
  mpu ← number_at w32 counter.1 4 why.Short
  found ← units_of (flags.0 % 2 == 1) (flags.0 / 8 % 2 == 1) mpu.1
  Ok (record { head = record { timed = (flags.0 / 8 % 2 == 1); part = part_of (flags.0 / 2 % 4); aggregated = (flags.0 % 2 == 1); counter = counter.0; mpu = mpu.0 }; units = found })
