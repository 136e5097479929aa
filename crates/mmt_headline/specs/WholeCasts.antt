-- What `take` gives back where each packet of a programme comes once and in its order: all units of the programme.
use Rattle.std.specs.Prelude.{◌≡◌, ◌⊎◌, ℕ, ◌<◌, ◌≤◌, List, ◌++◌, length, map}
use Rattle.mmt_cast.specs.Casting.{cast_of, time_of_unit}
use Rattle.mmt_cast.specs.Placing.{PlacedUnit, all_units}
use Rattle.mmt_cast.specs.Right.{unit_at, unit_bytes}
use Rattle.mmt_io.specs.History.{Event, bytes_written}
use Rattle.mmt_io.specs.Port.{Rose}
use Rattle.mmt_model.specs.Broadcast.{presentation_of}
use Rattle.mmt_model.specs.Carrying.{broadcast_of, numbers}
use Rattle.mmt_model.specs.Expected.{places}
use Rattle.mmt_model.specs.Handing.{Presentation, is_presented_before}
use Rattle.mmt_model.specs.Received.{IsNear}
use Rattle.mmt_model.specs.Sorted.{sort_by}
use Rattle.mmt_model.specs.Survival.{AreOf}
use Rattle.mmt_model.specs.declared.programmes.Programme.{Programme}
use Rattle.mmt_output.specs.Records.{records}
use Rattle.mmt_sent.specs.Stream.{contents_sent, stream}
use Rattle.mmt_io.specs.Output.{IsPrefix}
use Rattle.mmt_stream.specs.Streaming.{Does}
use Rattle.mmt_stream.specs.declared.end.StreamEnd.{StreamEnd}
use Rattle.mmt_take.specs.Taking.{taking}
use Rattle.mmt_tlv.specs.Framing.{joined}
use Rattle.mmt_tune.specs.declared.config.Config.{Config}
use Rattle.mmt_headline.specs.Programmes.{IsSendable, Receives}
use Rattle.mmt_headline.specs.Taken.{expected_of}
use Rattle.mmt_stream.specs.declared.end.StreamEnd.TheVariants as end

-- each packet of the cast of a programme once, in the order of the cast
abbrev pub in_order : Programme → List ℕ
in_order programme = numbers 0 (length (cast_of programme).packets)

-- the unit at a place of the plan as it is presented
abbrev pub presentation_at : Programme → (ℕ → List ℕ) → ℕ → Presentation
presentation_at programme files u = presentation_of (broadcast_of (cast_of programme) (contents_sent programme files)) u

-- all units of a programme with their times, in the order in which they are handed out (this project's rule)
unfoldable pub all_presented : Programme → (ℕ → List ℕ) → List Presentation
all_presented programme files = sort_by is_presented_before (map (presentation_at programme files) (places (length (all_units programme))))

-- a unit as it is presented: the packet id of its asset, the number of its MPU, its key, priority and dependency counter of the plan, the bytes of its asset's file from `from` on, and the time by the entry of its MPU
pub record IsPresented (files : ℕ → List ℕ) (x : PlacedUnit) (p : Presentation) : Type 0 where
  pub packet_id : p.unit.packet_id ≡ x.in_mpu.in_asset.packet_id
  pub mpu : p.unit.mpu ≡ x.in_mpu.value.number
  pub key : p.unit.key ≡ x.value.key
  pub priority : p.unit.priority ≡ x.value.priority
  pub dependency : p.unit.dependency ≡ x.value.dependency
  pub bytes : p.unit.bytes ≡ unit_bytes files x
  pub time : p.time ≡ time_of_unit x

-- so is each unit of a programme
abbrev pub UnitsArePresented : Type 0
UnitsArePresented = (programme : Programme) (files : ℕ → List ℕ) → IsSendable programme (cast_of programme) files → (u : ℕ) → u < length (all_units programme) → IsPresented files (unit_at programme u) (presentation_at programme files u)

-- each packet once and in its order is a near delivery, and all units are expected of it
pub record IsWhole (programme : Programme) (files : ℕ → List ℕ) : Type 0 where
  pub of : AreOf (cast_of programme).packets (in_order programme)
  pub near : IsNear (cast_of programme) programme.full_every (in_order programme)
  pub all : expected_of programme (cast_of programme) files (in_order programme) ≡ all_presented programme files

abbrev pub WholeCastsAreExpected : Type 0
WholeCastsAreExpected = (programme : Programme) (files : ℕ → List ℕ) → IsSendable programme (cast_of programme) files → IsWhole programme files

-- `take` over the stream of a programme: done, it wrote exactly the records of all units of the programme; ended in any way, a prefix of them; and it is done where no call of the port failed and the limit is not below the bytes, unless memory ran out
abbrev pub TakeGivesAllBack : Type 0
TakeGivesAllBack =
    (config : Config) (programme : Programme) (files : ℕ → List ℕ) (limit : ℕ) (outcome : StreamEnd) (old new : List Event) (unread : List ℕ) (reads reads' writes writes' : ℕ)
    → IsSendable programme (cast_of programme) files → Receives config programme → Does (taking config) limit outcome old new (joined (stream programme (cast_of programme) files)) unread reads reads' writes writes'
    → (events : List Event) × (new ≡ old ++ events) × (outcome ≡ end.Done → bytes_written events ≡ records (all_presented programme files))
    × IsPrefix (bytes_written events) (records (all_presented programme files))
    × (length (joined (stream programme (cast_of programme) files)) ≤ limit → (Rose reads reads' → ⊥) → (Rose writes writes' → ⊥) → (outcome ≡ end.Done) ⊎ (outcome ≡ end.OutOfMemory))
