-- What a right programme has, where its cast and what is written of it ask for it.
use Rattle.std.specs.Prelude.{ℕ, ◌≡◌, ◌^◌, ◌<◌, ◌≤◌, length, None}
use Rattle.mmt_cast.specs.Placing.{PlacedUnit, all_units}
use Rattle.mmt_cast.specs.Readable.{FitsTicks}
use Rattle.mmt_cast.specs.Refusing.{refusal}
use Rattle.mmt_cast.specs.Right.{IsRight as CastIsRightFor, signal_at, unit_at}
use Rattle.mmt_cast.specs.TablesRead.{FitsFields}
use Rattle.mmt_model.specs.Right.{AreRising, IsRight}
use Rattle.mmt_model.specs.declared.programmes.Programme.{Programme}
use Rattle.mmt_model.specs.declared.programmes.Signal.{Signal}
use Rattle.mmt_mpu.specs.Spelling.{HeadFits}
use Rattle.mmt_model.specs.declared.programmes.Signal.TheVariants as signals

-- a unit of a programme has a header that fits its fields, the ranges of a plan, and a file of the programme
pub record FitsUnit (programme : Programme) (x : PlacedUnit) : Type 0 where
  pub head : HeadFits x.in_mpu.in_asset.timed (record { key = x.value.key; priority = x.value.priority; dependency = x.value.dependency })
  pub mpu : x.in_mpu.value.number < 2 ^ 32
  pub some : 1 ≤ x.value.length
  pub bytes : x.value.length ≤ 16777216
  pub from : x.value.from ≤ 2 ^ 40
  pub at : x.value.at.0 ≤ 2 ^ 48
  pub packet_id : x.in_mpu.in_asset.packet_id < 2 ^ 16
  pub file : x.in_mpu.in_asset.file < length programme.files

-- the names of a signalling message rise
abbrev pub NamesRise : Signal → Type 0
NamesRise (signals.Parameters at) = Unit {0}
NamesRise (signals.Table at names) = AreRising names

-- a right programme has what its cast hangs on, and its ticks, units and names fit; where it has a cast, so do its tables
pub record RightProgrammesFit : Type 0 where
  pub right : (programme : Programme) → IsRight programme → CastIsRightFor programme
  pub ticks : (programme : Programme) → IsRight programme → FitsTicks programme
  pub units : (programme : Programme) → IsRight programme → (u : ℕ) → u < length (all_units programme) → FitsUnit programme (unit_at programme u)
  pub rise : (programme : Programme) → IsRight programme → (s : ℕ) → s < length programme.signals → NamesRise (signal_at programme s)
  pub fields : (programme : Programme) → IsRight programme → refusal programme ≡ None → FitsFields programme
