-- Where units are sought: the packets that units may begin in, and an index of their units.
use Rattle.std.specs.Prelude.{◌≡◌, ℕ, ◌+◌, Bool, true, List, [], ◌∷◌, ◌++◌, map, Option, Some, None, IfSome, ⊤}
use Rattle.std.specs.List.{list_any}
use Rattle.std.specs.Map.{lookup}
use Rattle.std.specs.Ordering.{is_eq}
use Rattle.std.specs.declared.cmp.Ordering.{Ordering}
use Rattle.mmt_model.specs.Packets.{DataUnit, Heard, Payload}
use Rattle.mmt_model.specs.declared.keys.Part.TheVariants as parts
use Rattle.mmt_model.specs.declared.keys.UnitKey.{UnitKey}
use Rattle.mmt_model.specs.Handing.{key_numbers}
use Rattle.mmt_times.specs.Known.{Known, time_in}
use Rattle.mmt_pool.specs.declared.types.Span.{Span}
use Rattle.mmt_pool.specs.contracts.types.SpanOrd.TheImpl.{cmp-value as span_order}
use Rattle.mmt_pool.specs.Holding.{Kept, packet_at}
use Rattle.mmt_runs.specs.declared.index.Due.{Due}
use Rattle.mmt_runs.specs.declared.index.Begun.{Begun}
use Rattle.mmt_runs.specs.contracts.index.BegunOrd.TheImpl.{cmp-value as begun_order}
use Rattle.mmt_runs.specs.contracts.index.DueOrd.TheImpl.{cmp-value as due_order}
use Rattle.mmt_mpu.specs.Spelling.{Value as Mpu}
use Rattle.mmt_runs.specs.Reading.{heard, data_unit_of}

-- the order in which units are handed out, by their numbers, and then of the packet that a unit begins in (this project's rule)
abbrev pub order : Due → Due → Ordering
order d e = due_order.it d e

-- the index has this unit
abbrev pub IsIn : List Due → Due → Type 0
IsIn index d = list_any (λ e. is_eq (order d e)) index ≡ true

-- this unit stands beside the index
abbrev pub IsBegun : List Begun → Begun → Type 0
IsBegun begun b = list_any (λ e. is_eq (begun_order.it b e)) begun ≡ true

-- what the one index has, the other has
abbrev pub Keeps : List Due → List Due → Type 0
Keeps old new = (d : Due) → IsIn old d → IsIn new d

-- the same of the units of other packets than this
abbrev pub KeepsOthers : List Due → List Due → Span → Type 0
KeepsOthers old new span = (d : Due) → (d.span ≡ span → ⊥) → IsIn old d → IsIn new d

-- the number of the MPU whose units may begin in a packet: one with whole data units, or with a first part (ISO/IEC 23008-1, the fragmentation indicator)
abbrev pub begun_by : Payload → Option ℕ
begun_by (Payload.Media parts.Whole timed mpu units) = Some mpu
begun_by (Payload.Media parts.First timed mpu units) = Some mpu
begun_by (Payload.Media parts.Middle timed mpu units) = None
begun_by (Payload.Media parts.Last timed mpu units) = None
begun_by (Payload.Signalling part messages) = None
begun_by Payload.Other = None

-- the data units of a payload (ISO/IEC 23008-1, the MPU payload)
abbrev pub units_in : Payload → List DataUnit
units_in (Payload.Media part timed mpu units) = units
units_in (Payload.Signalling part messages) = []
units_in Payload.Other = []

-- what the payload of a packet spells, where it is there
abbrev pub spelled_at : Option Kept → Payload
spelled_at None = Payload.Other
spelled_at (Some p) = (heard p).payload

-- the place of a unit in the order in which units are handed out, by its time, the packet that it begins in, its MPU, key and place there (this project's rule)
abbrev pub due_at : ℕ → Span → ℕ → UnitKey → ℕ → Due
due_at time span mpu key place = record { numbers = time ∷ span.packet_id ∷ mpu ∷ (key_numbers key ++ span.number ∷ place ∷ []); span = span }

-- where a unit of this key has a time, the index has the unit
abbrev pub HasKey : List Due → Known → Span → ℕ → ℕ → UnitKey → Type 0
HasKey index known span mpu place key = IfSome (time_in known span.packet_id mpu key) (λ t. IsIn index (due_at t span mpu key place))

-- the same of each of several data units, from this place on
abbrev pub HasEach : List Due → Known → Span → ℕ → ℕ → List DataUnit → Type 0
HasEach index known span mpu place [] = ⊤
HasEach index known span mpu place (d ∷ ds) = HasKey index known span mpu place d.key × HasEach index known span mpu (place + 1) ds

-- the index has the units that may begin in a packet with this payload, where they have a time
abbrev pub HasTimes : List Due → Known → Span → Payload → Type 0
HasTimes index known span c = IfSome (begun_by c) (λ mpu. HasEach index known span mpu 0 (units_in c))

-- the value of a payload that units may begin in, or there is no such payload
abbrev pub Begins : Payload → Option Mpu → Type 0
Begins c None = begun_by c ≡ None
Begins c (Some v) = (begun_by c ≡ Some v.head.mpu) × (units_in c ≡ map data_unit_of v.units)

-- units may begin in the packet of this span and are of this MPU
abbrev pub at_span : List (Span × ℕ) → Span → Option ℕ
at_span starts s = lookup (λ k. is_eq (span_order.it s k)) starts
