-- MPUs of a plan (this project's rules).
use Rattle.std.specs.Prelude.{ℕ, ◌-◌, ◌^◌, Bool, List, [], ◌∷◌, codes, Result, Ok, if◌then◌else◌}
use Rattle.serde_json.specs.Data.{Data}
use Rattle.mmt_model.specs.declared.programmes.Mpu.{Mpu}
use Rattle.mmt_model.specs.declared.programmes.Unit as model
use Rattle.mmt_plan.specs.Aus.{au_at}
use Rattle.mmt_plan.specs.Members.{is_object_at, number_at, list_at, list_from_at, no_other_at}
use Rattle.mmt_plan.specs.Places.{spot_of}
use Rattle.mmt_plan.specs.Reading.{◌>>=◌}
use Rattle.mmt_plan.specs.Units.{unit_at}
use Rattle.mmt_plan.specs.declared.ends.PlanPart.TheVariants as parts
use Rattle.mmt_plan.specs.declared.ends.Refusal.{Refusal}
use Rattle.mmt_plan.specs.declared.spots.Spot.{Spot}

-- the unit of a number in the MPU at a spot
abbrev pub unit_in : Spot → ℕ → Data → Result model.Unit Refusal
unit_in s n d = unit_at (spot_of parts.Unit n s) d

-- the members of an MPU
abbrev pub mpu_keys : List (List ℕ)
mpu_keys = codes "number" ∷ codes "time" ∷ codes "decoding_offset" ∷ codes "aus" ∷ codes "units" ∷ []

-- the most access units of an MPU: none where its units aren't timed media
abbrev pub most_aus : Bool → ℕ
most_aus timed = if timed then 60 else 0

-- the MPU that a value is, at its spot
unfoldable pub mpu_of : Spot → Data → Result Mpu Refusal
mpu_of s d = do
  _ ← is_object_at s d
  number ← number_at 0 (2 ^ 32 - 1) s 1 (codes "number") d
  time ← number_at 0 (2 ^ 64 - 1) s 2 (codes "time") d
  decoding_offset ← number_at 0 65535 s 3 (codes "decoding_offset") d
  aus ← list_at au_at 0 (most_aus s.timed) s 4 (codes "aus") d
  units ← list_from_at unit_in 1 s 5 (codes "units") d
  _ ← no_other_at s mpu_keys d
  Ok (record { number = number; time = record { 0 = time }; decoding_offset = decoding_offset; aus = aus; units = units })

-- the MPU of a number in the asset at a spot
abbrev pub mpu_at : Spot → ℕ → Data → Result Mpu Refusal
mpu_at s n d = mpu_of (spot_of parts.Mpu n s) d
