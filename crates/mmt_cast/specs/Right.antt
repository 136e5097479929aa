-- What the cast of a right programme is to carry, and that it goes with it.
use Rattle.std.specs.Prelude.{ℕ, ◌≡◌, ◌<◌, ◌≤◌, false, List, [], map, length, get_or, take, drop, None}
use Rattle.mmt_cast.specs.Casting.{cast_of, place_of_mpu}
use Rattle.mmt_frag.specs.Cuts.{part_bytes}
use Rattle.mmt_cast.specs.Placing.{PlacedMpu, PlacedUnit, all_mpus, all_units, entry_of_mpu}
use Rattle.mmt_cast.specs.Refusing.{refusal}
use Rattle.mmt_cast.specs.Tables.{parameters_length, table_message_length}
use Rattle.mmt_model.specs.Carrying.{Contents, IsCastOf}
use Rattle.mmt_model.specs.Entries.{Entry}
use Rattle.mmt_model.specs.Right.{IsKnown, no_asset}
use Rattle.std.specs.List.{AllByRecursion}
use Rattle.mmt_model.specs.declared.programmes.Asset.{Asset}
use Rattle.mmt_model.specs.declared.programmes.Mpu.{Mpu}
use Rattle.mmt_model.specs.declared.programmes.Programme.{Programme}
use Rattle.mmt_model.specs.declared.programmes.Signal.{Signal}
use Rattle.mmt_model.specs.declared.keys.UnitKey.TheVariants as keys
use Rattle.mmt_model.specs.declared.programmes.Signal.TheVariants as signals

-- an MPU, a unit and a signalling message, for places outside a programme
abbrev pub no_mpu : Mpu
no_mpu = record { number = 0; time = record { 0 = 0 }; decoding_offset = 0; aus = []; units = [] }

abbrev pub no_placed_mpu : PlacedMpu
no_placed_mpu = record { asset = 0; mpu = 0; in_asset = no_asset; value = no_mpu }

abbrev pub no_placed_unit : PlacedUnit
no_placed_unit = record { mpu_place = 0; in_mpu = no_placed_mpu; unit = 0; value = record { at = record { 0 = 0 }; from = 0; length = 0; key = keys.Item 0; priority = 0; dependency = 0 } }

abbrev pub no_signal : Signal
no_signal = signals.Parameters (record { 0 = 0 })

-- the unit and the MPU at a place of a programme
unfoldable pub unit_at : Programme → ℕ → PlacedUnit
unit_at programme u = get_or (all_units programme) u no_placed_unit

unfoldable pub mpu_at : Programme → ℕ → PlacedMpu
mpu_at programme m = get_or (all_mpus programme) m no_placed_mpu

-- the signalling message at a place of a programme
unfoldable pub signal_at : Programme → ℕ → Signal
signal_at programme s = get_or programme.signals s no_signal

-- a unit's bytes: those of its asset's file from `from` on, `length` of them
unfoldable pub unit_bytes : (ℕ → List ℕ) → PlacedUnit → List ℕ
unit_bytes files x = take x.value.length (drop x.value.from (files x.in_mpu.in_asset.file))

-- what the cast of a programme is to carry, by the bytes of its files and of its signalling messages
unfoldable pub contents_of : Programme → (ℕ → List ℕ) → (ℕ → List ℕ) → Contents
contents_of programme files messages =
    record {
      entry = λ m. entry_of_mpu (mpu_at programme m);
      timed = λ u. (unit_at programme u).in_mpu.in_asset.timed;
      data_unit = λ u. record { key = (unit_at programme u).value.key; priority = (unit_at programme u).value.priority; dependency = (unit_at programme u).value.dependency; bytes = unit_bytes files (unit_at programme u) };
      part = λ u k. part_bytes programme.limit k (unit_bytes files (unit_at programme u));
      message_part = λ s k. part_bytes programme.limit k (messages s);
    }

-- a signalling message names MPUs of the programme
abbrev pub NamesKnown : Programme → Signal → Type 0
NamesKnown programme (signals.Parameters at) = Unit {0}
NamesKnown programme (signals.Table at names) = AllByRecursion (IsKnown programme.assets) names

-- of what makes a programme right, what its cast hangs on
pub record IsRight (programme : Programme) : Type 0 where
  -- a packet has at least 64 bytes of a unit or a message
  pub limit : 64 ≤ programme.limit
  -- packet id 0 is that of signalling, and no two assets have one packet id
  pub ids : (a : ℕ) → a < length programme.assets → 1 ≤ (get_or programme.assets a no_asset).packet_id
  pub one_id : (a b : ℕ) → a < length programme.assets → b < length programme.assets → (get_or programme.assets a no_asset).packet_id ≡ (get_or programme.assets b no_asset).packet_id → a ≡ b
  -- no two MPUs of an asset have one number
  pub one_number : (a b c : ℕ) → a < length programme.assets → (let mpus = (get_or programme.assets a no_asset).mpus in
      b < length mpus → c < length mpus → (get_or mpus b no_mpu).number ≡ (get_or mpus c no_mpu).number → b ≡ c)
  -- no unit is empty
  pub some : (u : ℕ) → u < length (all_units programme) → 1 ≤ (unit_at programme u).value.length
  -- tables name MPUs of the programme
  pub known : (s : ℕ) → s < length programme.signals → NamesKnown programme (signal_at programme s)

-- these bytes are those of a signalling message: a buffer message names nothing, and a table names its MPUs by their entries
abbrev pub IsMessage : Programme → (List ℕ → List Entry) → Signal → List ℕ → Type 0
IsMessage programme names_in (signals.Parameters at) bytes = (length bytes ≡ parameters_length) × (names_in bytes ≡ [])
IsMessage programme names_in (signals.Table at names) bytes =
    (length bytes ≡ table_message_length programme names)
    × (names_in bytes ≡ map (λ name. entry_of_mpu (mpu_at programme (place_of_mpu (all_mpus programme) name))) names)

-- the cast of a right programme that has one, with the bytes of its files and its messages, goes with what it is to carry
abbrev pub CastIsRight : Type 0
CastIsRight =
    (programme : Programme) (files messages : ℕ → List ℕ) (names_in : List ℕ → List Entry) → IsRight programme
    → ((s : ℕ) → s < length programme.signals → IsMessage programme names_in (signal_at programme s) (messages s))
    → refusal programme ≡ None
    → IsCastOf (cast_of programme) (contents_of programme files messages) names_in
