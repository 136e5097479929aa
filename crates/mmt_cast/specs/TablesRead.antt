-- What a receiver reads in the tables that are sent: the entries of the MPUs that are named.
use Rattle.std.specs.Prelude.{ℕ, ◌≡◌, ◌^◌, ◌<◌, ◌≤◌, List, [], ◌∷◌, map, length, All, IsSome, Ok}
use Rattle.std.specs.List.{AllByRecursion}
use Rattle.mmt_cast.specs.Casting.{place_of_mpu}
use Rattle.mmt_cast.specs.Placing.{PlacedMpu, all_mpus, entry_of_mpu}
use Rattle.mmt_cast.specs.Right.{IsRight, mpu_at}
use Rattle.mmt_cast.specs.SentTables.{sent_table}
use Rattle.mmt_cast.specs.Tables.{table_length}
use Rattle.mmt_model.specs.Right.{AreRising, IsKnown}
use Rattle.mmt_model.specs.declared.programmes.Asset.{Asset}
use Rattle.mmt_model.specs.declared.programmes.Au.{Au}
use Rattle.mmt_model.specs.declared.programmes.Programme.{Programme}
use Rattle.mmt_mpt.specs.Table.{mpt_spelling}
use Rattle.mmt_mpt.specs.TableReading.{mpt_of}
use Rattle.mmt_times.specs.NamesOf.{IsEntry, names_of}
use Rattle.mmt_times.specs.Times.{all_in_range, unit_times}
use Rattle.mmt_times.specs.Writing.{au_value}

-- the numbers of an MPU fit their fields in a table, and none of its access units' times is out of range
pub record FitsTable (m : PlacedMpu) : Type 0 where
  pub number : m.value.number < 2 ^ 32
  pub time : m.value.time.0 < 2 ^ 64
  pub offset : m.value.decoding_offset < 2 ^ 16
  pub timescale : (1 ≤ m.in_asset.timescale) × (m.in_asset.timescale < 2 ^ 32)
  pub few : length m.value.aus ≤ 60
  pub aus : All (λ (a : Au). (a.dts_pts < 2 ^ 16) × (a.pts < 2 ^ 16)) m.value.aus
  pub times : IsSome (all_in_range (unit_times m.value.time.0 m.value.decoding_offset m.in_asset.timescale 0 0 (map au_value m.value.aus)))

-- a receiver reads in a table that is sent exactly the entries of the MPUs that it names, in their order, whatever its own timescale
abbrev pub TablesAreRead : Type 0
TablesAreRead =
    (programme : Programme) → IsRight programme → ((m : ℕ) → m < length (all_mpus programme) → FitsTable (mpu_at programme m))
    → (configured version : ℕ) (names : List (ℕ × ℕ)) → AreRising names → AllByRecursion (IsKnown programme.assets) names
    → names_of configured (sent_table programme version names) ≡ map (λ name. IsEntry (entry_of_mpu (mpu_at programme (place_of_mpu (all_mpus programme) name)))) names

-- what a table has of a programme fits its fields
pub record FitsFields (programme : Programme) : Type 0 where
  pub package_id : length programme.«package» < 2 ^ 8
  pub assets : length programme.assets < 2 ^ 8
  pub each : All (λ (a : Asset). (length a.id < 2 ^ 8) × (a.kind < 2 ^ 32) × (a.packet_id < 2 ^ 16)) programme.assets
  pub mpus : (m : ℕ) → m < length (all_mpus programme) → FitsTable (mpu_at programme m)

-- a table that is sent has as many bytes as the cast says, and, where it is not too long, is read back from them
abbrev pub TablesAreSpelled : Type 0
TablesAreSpelled =
    (programme : Programme) (version : ℕ) (names : List (ℕ × ℕ))
    → (length (mpt_spelling (sent_table programme version names)) ≡ table_length programme names)
    × (FitsFields programme → version < 2 ^ 8 → table_length programme names ≤ 65535 → mpt_of (mpt_spelling (sent_table programme version names)) ≡ Ok (sent_table programme version names))
