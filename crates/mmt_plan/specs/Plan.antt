-- *Plan*: what the file of a plan is read as, the programme or the first reason why it is none (this project's rules).
use Rattle.std.specs.Prelude.{◌≡◌, ℕ, ◌≤◌, Bool, IsTrue, nat_lt, List, length, Option, Some, None, Result, Ok, Err, if◌then◌else◌}
use Rattle.std.specs.Str.{is_utf8}
use Rattle.serde_json.specs.Data.{Data}
use Rattle.serde_json.specs.Read.{read}
use Rattle.mmt_model.specs.declared.programmes.Programme.{Programme}
use Rattle.mmt_plan.specs.Places.{refused}
use Rattle.mmt_plan.specs.Reading.{◌>>=◌, or_refuse}
use Rattle.mmt_plan.specs.Tops.{top_spot, programme_of}
use Rattle.mmt_plan.specs.Wholes.{agreeing}
use Rattle.mmt_plan.specs.declared.ends.PlanEnd.{PlanEnd}
use Rattle.mmt_plan.specs.declared.ends.PlanEnd.TheVariants.{Refused, ReadFault, OutOfMemory}
use Rattle.mmt_plan.specs.declared.ends.PlanPlace.{PlanPlace}
use Rattle.mmt_plan.specs.declared.ends.Reason.TheVariants.{PlanAbsent, PlanLong, NotJson}
use Rattle.mmt_plan.specs.declared.ends.Refusal.{Refusal}

-- the place of the plan as a whole
abbrev pub top_place : PlanPlace
top_place = top_spot.place

-- the bytes of a plan's file, which are at most 16,777,216
unfoldable pub bytes_of : Option (List ℕ) → Result (List ℕ) Refusal
bytes_of None = Err (refused PlanAbsent 0 top_spot)
bytes_of (Some bytes) = if nat_lt 16777216 (length bytes) then Err (refused PlanLong 0 top_spot) else Ok bytes

-- the JSON value that bytes are, as the crate serde_json reads them
unfoldable pub json_in : List ℕ → Option Data
json_in bytes = if is_utf8 bytes then read bytes else None

-- the JSON value that bytes must be
unfoldable pub json_of : List ℕ → Result Data Refusal
json_of bytes = or_refuse (refused NotJson 0 top_spot) (json_in bytes)

-- the programme that the bytes of a plan are, or the first reason why they are none
unfoldable pub programme_in : List ℕ → Result Programme Refusal
programme_in bytes = do
  d ← json_of bytes
  p ← programme_of d
  agreeing p

-- the programme that the file of a plan is, where there is one, or the first reason why it is none
unfoldable pub plan : Option (List ℕ) → Result Programme Refusal
plan file = do
  bytes ← bytes_of file
  programme_in bytes

-- what a function answers is a reading, out of memory and faults aside
abbrev pub IsOutcome : {A : Type 0} → Result A Refusal → Result A PlanEnd → Type 0
IsOutcome reading (Ok x) = reading ≡ Ok x
IsOutcome reading (Err (Refused reason place)) = reading ≡ Err (record { reason = reason; place = place })
IsOutcome reading (Err ReadFault) = Unit {0}
IsOutcome reading (Err OutOfMemory) = Unit {0}

-- a shelf tells and holds what it did, and its count of faults doesn't fall
pub record Stays (tells_before tells_now : Bool) (before now : List ℕ → Option (List ℕ)) (faults counted : ℕ) : Type 0 where
  pub tells : tells_now ≡ tells_before
  pub files : IsTrue tells_before → now ≡ before
  pub later : faults ≤ counted

-- what a function answers is the reading of a file as it was seen, which is the file of the shelf where the shelf tells its files
pub record IsReadOf {A : Type 0} (reading : Option (List ℕ) → Result A Refusal) (tells : Bool) (file : Option (List ℕ)) (result : Result A PlanEnd) : Type 0 where
  pub seen : Option (List ℕ)
  pub told : IsTrue tells → seen ≡ file
  pub answer : IsOutcome (reading seen) result
