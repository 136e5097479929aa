-- A unit that is lent part by part.
use Rattle.std.specs.Prelude.{◌≡◌, ℕ, zero, suc, Bool, List, [], ◌∷◌, map, Option, Some, None}
use denote.Bor.{Bor}
use Rattle.mmt_model.specs.Handing.{Presentation}
use Rattle.mmt_model.specs.Packets.{Heard, Payload}
use Rattle.mmt_model.specs.Units.{Link, MediaUnit, media_link, link_at, packet_at, next_number, joined}
use Rattle.mmt_mpu.specs.Spelling.{UnitValue}
use Rattle.mmt_pool.specs.Holding.{Kept}
use Rattle.mmt_runs.specs.Reading.{heard}
use Rattle.mmt_runs.specs.declared.order.UnitOrder.{UnitOrder}

-- a unit of which parts are lent: its place in the order, its priority and dependency, and the parts that are still to be lent (ISO/IEC 23008-1, the data unit; the order is this project's rule)
pub record Lending : Type 0 where
  pub order : UnitOrder
  pub priority : ℕ
  pub dependency : ℕ
  pub left : List (List ℕ)

-- the media unit of this place, with the priority and dependency of a data unit (ISO/IEC 23008-1, the data unit)
abbrev pub unit_at : UnitOrder → ℕ → ℕ → List ℕ → MediaUnit
unit_at o priority dependency bytes = record { packet_id = o.packet_id; mpu = o.mpu; key = o.key; priority = priority; dependency = dependency; number = o.first_number; place = o.place; bytes = bytes }

-- the unit with its time, where no part of it was lent yet (this project's rule)
unfoldable pub the_presentation : Lending → Presentation
the_presentation l = record { unit = unit_at l.order l.priority l.dependency (joined l.left); time = l.order.time.0 }

-- the first part that is left was lent, or none is left and nothing changed (this project's rule)
abbrev pub Lends : Lending → Option (Bor (List ℕ)) → Lending → Type 0
Lends old None new = (old.left ≡ []) × (new ≡ old)
Lends old (Some bytes) new = old ≡ record new { left = bytes.now ∷ new.left }

-- the bytes of a part (ISO/IEC 23008-1, the fragmentation indicator)
abbrev pub link_bytes : Link → List ℕ
link_bytes (Link.Inner bytes) = bytes
link_bytes (Link.End bytes) = bytes
link_bytes Link.Break = []

-- the bytes of so many packets, from this number on (ISO/IEC 23008-1, the fragmentation indicator)
unfoldable pub parts_from : (Payload → Link) → List Heard → ℕ → ℕ → ℕ → List (List ℕ)
parts_from link kept id zero number = []
parts_from link kept id (suc n) number = link_bytes (link_at link (packet_at kept id number)) ∷ parts_from link kept id n (next_number number)

-- of so many parts the first, which has these bytes, and those of the packets from this number on (ISO/IEC 23008-1, the fragmentation indicator)
abbrev pub all_parts : (Payload → Link) → List Heard → ℕ → ℕ → List ℕ → ℕ → List (List ℕ)
all_parts link kept id zero bytes number = []
all_parts link kept id (suc n) bytes number = bytes ∷ parts_from link kept id n number

-- the same of kept packets, for a unit of this place (ISO/IEC 23008-1, the fragmentation indicator)
abbrev pub kept_parts : List Kept → UnitOrder → Bool → ℕ → List ℕ → ℕ → List (List ℕ)
kept_parts kept o timed left bytes number = all_parts (media_link timed o.mpu) (map heard kept) o.packet_id left bytes number

-- a unit at this place that takes so many packets, of which the first has this data unit (ISO/IEC 23008-1, the data unit)
abbrev pub lending_of : List Heard → UnitOrder → Bool → UnitValue → ℕ → Lending
lending_of kept o timed u count =
    record { order = o; priority = u.head.priority; dependency = u.head.dependency; left = all_parts (media_link timed o.mpu) kept o.packet_id count u.bytes (next_number o.first_number) }
