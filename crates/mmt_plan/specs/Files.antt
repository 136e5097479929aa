-- The files of a programme (this project's rules).
use Rattle.std.specs.Prelude.{◌≡◌, ℕ, ◌+◌, ◌<◌, ◌≤◌, ◌^◌, Bool, false, nat_le, List, [], length, get_or, Option, Some, None, Result, Ok, Err, if◌then◌else◌}
use Rattle.std.specs.List.{All}
use Rattle.mmt_model.specs.declared.programmes.Asset.{Asset}
use Rattle.mmt_model.specs.declared.programmes.Mpu.{Mpu}
use Rattle.mmt_model.specs.declared.programmes.Programme.{Programme}
use Rattle.mmt_model.specs.declared.programmes.Unit as model
use Rattle.mmt_plan.specs.Places.{refused, spot_of}
use Rattle.mmt_plan.specs.Reading.{◌>>=◌}
use Rattle.mmt_plan.specs.Tops.{top_spot}
use Rattle.mmt_plan.specs.Wholes.{each_checked}
use Rattle.mmt_plan.specs.declared.ends.FilesEnd.{FilesEnd}
use Rattle.mmt_plan.specs.declared.ends.FilesEnd.TheVariants.{Refused, ReadFault}
use Rattle.mmt_plan.specs.declared.ends.PlanPart.TheVariants as parts
use Rattle.mmt_plan.specs.declared.ends.Reason.TheVariants.{FileAbsent, UnitShort}
use Rattle.mmt_plan.specs.declared.ends.Refusal.{Refusal}
use Rattle.mmt_plan.specs.declared.spots.Spot.{Spot}

-- a unit has a byte, and its bytes stand where a file can have them
pub record IsUnitOfFile (u : model.Unit) : Type 0 where
  pub from : u.from ≤ 2 ^ 40
  pub some : 1 ≤ u.length

-- an MPU's units are such, and few enough to be counted in 32 bits
pub record IsMpuOfFile (m : Mpu) : Type 0 where
  pub few : length m.units < 2 ^ 32
  pub units : All IsUnitOfFile m.units

-- a file that may be there has N bytes
abbrev pub has_bytes : Option (List ℕ) → ℕ → Bool
has_bytes None count = false
has_bytes (Some bytes) count = nat_le count (length bytes)

-- a unit's bytes end at a place of their file or before it
abbrev pub EndsBy : ℕ → model.Unit → Type 0
EndsBy end u = u.from + u.length ≤ end

-- so do those of each unit of an MPU
abbrev pub MpuEndsBy : ℕ → Mpu → Type 0
MpuEndsBy end m = All (EndsBy end) m.units

-- a file has the bytes of the unit of a number in the MPU at a spot
unfoldable pub check_unit : Option (List ℕ) → Spot → ℕ → model.Unit → Result (Unit {0}) Refusal
check_unit file s n u = if has_bytes file (u.from + u.length) then Ok tt else Err (refused UnitShort 3 (spot_of parts.Unit n s))

-- a file has the bytes of each unit of an MPU, which is the one of a number in the asset at a spot
unfoldable pub check_mpu : Option (List ℕ) → Spot → ℕ → Mpu → Result (Unit {0}) Refusal
check_mpu file s n m = each_checked (check_unit file (spot_of parts.Mpu n s)) 0 m.units

-- the file of an asset
abbrev pub file_of : (List ℕ → Option (List ℕ)) → List (List ℕ) → Asset → Option (List ℕ)
file_of file names a = file (get_or names a.file [])

-- a file is there
unfoldable pub is_there : Spot → Option (List ℕ) → Result (Unit {0}) Refusal
is_there s None = Err (refused FileAbsent 6 s)
is_there s (Some bytes) = Ok tt

-- the file of the asset at a spot is there, and has the bytes of each of its units
unfoldable pub check_asset_at : Option (List ℕ) → Spot → Asset → Result (Unit {0}) Refusal
check_asset_at file s a = do
  _ ← is_there s file
  each_checked (check_mpu file s) 0 a.mpus

-- the same of the asset of a number
abbrev pub check_asset : (List ℕ → Option (List ℕ)) → List (List ℕ) → ℕ → Asset → Result (Unit {0}) Refusal
check_asset file names n a = check_asset_at (file_of file names a) (spot_of parts.Asset n top_spot) a

-- the file of each asset is there and long enough, or the first reason why not, asset by asset
unfoldable pub files_of : (List ℕ → Option (List ℕ)) → Programme → Result (Unit {0}) Refusal
files_of file p = each_checked (check_asset file p.files) 0 p.assets

-- what a function answers is what the files give, faults aside
abbrev pub IsFilesAnswer : Result (Unit {0}) Refusal → Result (Unit {0}) FilesEnd → Type 0
IsFilesAnswer reading (Ok x) = reading ≡ Ok x
IsFilesAnswer reading (Err (Refused reason place)) = reading ≡ Err (record { reason = reason; place = place })
IsFilesAnswer reading (Err ReadFault) = Unit {0}
