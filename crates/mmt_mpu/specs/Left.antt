-- The units that bytes hold, up to the first refusal.
use Rattle.std.specs.Prelude.{ℕ, Bool, true, false, List, [], ◌∷◌, Result, Ok, Err}
use Rattle.mmt_base.specs.declared.refused.Refused.{Refused}
use Rattle.mmt_mpu.specs.declared.types.MpuWhy.{MpuWhy}
use Rattle.mmt_mpu.specs.Spelling.{UnitValue}
use Rattle.mmt_mpu.specs.Reading.{all_units, lone_at}

-- the unit that was read, or none
abbrev pub lone_list : Result UnitValue (Refused MpuWhy) → List UnitValue
lone_list (Ok u) = u ∷ []
lone_list (Err e) = []

-- one unit that takes all the bytes, or units one after the other, each after its length
abbrev pub left : Bool → Bool → ℕ → List ℕ → List UnitValue
left true timed at bytes = lone_list (lone_at timed at bytes)
left false timed at bytes = (all_units timed at bytes).units
