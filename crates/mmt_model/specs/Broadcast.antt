-- A cast with what is read of it: the packets with their payloads, the entries by which its MPUs are named, and its table copies and units with the places of their packets.
use Rattle.std.specs.Prelude.{ℕ, List, [], get_or}
use Rattle.mmt_base.specs.Ticks.{due_of}
use Rattle.mmt_model.specs.Entries.{Entry, last_due}
use Rattle.mmt_model.specs.Handing.{Presentation, time_of}
use Rattle.mmt_model.specs.Survival.{SentPackets}
use Rattle.mmt_model.specs.Units.{MediaUnit}
use Rattle.mmt_model.specs.declared.keys.UnitKey.TheVariants as keys

-- a table copy by places: those of the MPUs that it names among the cast's MPUs, and those of its packets
pub record CopyPlaces : Type 0 where
  pub names : List ℕ
  pub members : List ℕ

-- the packets of a cast with the entries of its MPUs and the table copies that name them
pub record NamedCast : Type 0 where
  pub packets : SentPackets
  pub mpus : List Entry
  pub copies : List CopyPlaces

-- a unit of a cast: the place of its MPU, the media unit that it is, and the places of its packets
pub record UnitPlaces : Type 0 where
  pub mpu : ℕ
  pub value : MediaUnit
  pub members : List ℕ

-- a cast with its units, and which sample is the first access unit's
pub record Broadcast : Type 0 where
  pub cast : NamedCast
  pub units : List UnitPlaces
  pub sample_base : ℕ

-- an entry, for places outside a cast
abbrev pub no_entry : Entry
no_entry = record { packet_id = 0; mpu = 0; time = 0; aus = [] }

-- a unit, for places outside a cast
abbrev pub no_unit : UnitPlaces
no_unit = record { mpu = 0; value = record { packet_id = 0; mpu = 0; key = keys.Item 0; priority = 0; dependency = 0; number = 0; place = 0; bytes = [] }; members = [] }

-- the entry of the MPU at a place
unfoldable pub entry_of : NamedCast → ℕ → Entry
entry_of cast m = get_or cast.mpus m no_entry

-- the last due tick of the MPU at a place
unfoldable pub due_at : NamedCast → ℕ → ℕ
due_at cast m = last_due (entry_of cast m)

-- the unit at a place
unfoldable pub unit_of : Broadcast → ℕ → UnitPlaces
unit_of broadcast u = get_or broadcast.units u no_unit

-- the unit at a place with its time by the entry of its MPU
unfoldable pub presentation_of : Broadcast → ℕ → Presentation
presentation_of broadcast u =
    record { unit = (unit_of broadcast u).value; time = time_of broadcast.sample_base (entry_of broadcast.cast (unit_of broadcast u).mpu) (unit_of broadcast u).value }

-- the due tick of the unit at a place
unfoldable pub due_of_unit : Broadcast → ℕ → ℕ
due_of_unit broadcast u = due_of (presentation_of broadcast u).time
