-- A cast whose packets are sent at other ticks, and so the cast that is paced over slots (this project's rules).
use Rattle.std.specs.Prelude.{◌≡◌, ◌⊎◌, ℕ, List, Bool, map}
use Rattle.std.specs.List.{filter}
use Rattle.mmt_cast.specs.Casting.{cast_of, greatest, has_table, has_unit, is_sent_before, least, long_tick, tick_of_sent}
use Rattle.mmt_cast.specs.Placing.{map_from}
use Rattle.mmt_model.specs.Carrying.{named_from_of}
use Rattle.mmt_model.specs.Sorted.{sort_by}
use Rattle.mmt_model.specs.declared.casts.Carries.{Carries}
use Rattle.mmt_model.specs.declared.casts.Cast.{Cast}
use Rattle.mmt_model.specs.declared.casts.Sent.{Sent}
use Rattle.mmt_model.specs.declared.casts.SentMpu.{SentMpu}
use Rattle.mmt_model.specs.declared.casts.SentUnit.{SentUnit}
use Rattle.mmt_model.specs.declared.casts.TableCopy.{TableCopy}
use Rattle.mmt_model.specs.declared.programmes.Programme.{Programme}
use Rattle.mmt_slots.specs.Schedule.{slot_of, tick_of}
use Rattle.mmt_slots.specs.declared.row.Slots.{Slots}

-- a packet at another tick
abbrev pub at_tick : ℕ → Sent → Sent
at_tick tick p = record { at = record { 0 = tick }; packet_id = p.packet_id; number = p.number; rap = p.rap; length = p.length; carries = p.carries }

-- packets at other ticks, by their places
unfoldable pub retimed : (ℕ → ℕ) → List Sent → List Sent
retimed ticks packets = map_from (λ n p. at_tick (ticks n) p) 0 packets

-- the timestamps of the packets that carry something
unfoldable pub ticks_with : (Carries → Bool) → List Sent → List ℕ
ticks_with has packets = map tick_of_sent (filter (λ p. has p.carries) packets)

-- a unit that is sent in these packets, its first and last timestamp being the least and the greatest of theirs
unfoldable pub unit_in_packets : List Sent → ℕ → SentUnit → SentUnit
unit_in_packets packets u x =
    record {
      asset = x.asset;
      mpu = x.mpu;
      unit = x.unit;
      key = x.key;
      time = x.time;
      due = x.due;
      first = record { 0 = least (ticks_with (has_unit u) packets) };
      last = record { 0 = greatest (ticks_with (has_unit u) packets) };
      first_number = x.first_number;
      count = x.count;
    }

-- a table copy likewise
unfoldable pub copy_in_packets : List Sent → TableCopy → TableCopy
copy_in_packets packets c =
    record {
      signal = c.signal;
      names = c.names;
      first = record { 0 = least (ticks_with (has_table c.signal) packets) };
      last = record { 0 = greatest (ticks_with (has_table c.signal) packets) };
      first_number = c.first_number;
      count = c.count;
    }

-- an MPU that is named by these table copies: its due ticks stay as they are
unfoldable pub mpu_named_by : List TableCopy → ℕ → SentMpu → SentMpu
mpu_named_by copies m x = record { asset = x.asset; mpu = x.mpu; least = x.least; last = x.last; named_from = long_tick (named_from_of m copies) }

-- the cast whose packet at each place is sent at another tick, in the order of a cast
unfoldable pub recast : (ℕ → ℕ) → Cast → Cast
recast ticks cast =
    record {
      params = cast.params;
      packets = sort_by is_sent_before (retimed ticks cast.packets);
      units = map_from (unit_in_packets (retimed ticks cast.packets)) 0 cast.units;
      mpus = map_from (mpu_named_by (map (copy_in_packets (retimed ticks cast.packets)) cast.copies)) 0 cast.mpus;
      copies = map (copy_in_packets (retimed ticks cast.packets)) cast.copies;
    }

-- the tick of the slot that is given to the packet at a place
abbrev pub ticks_of : Slots → List ℕ → ℕ → ℕ
ticks_of slots given n = tick_of slots (slot_of given n)

-- the cast that is paced: each packet is sent in its slot
unfoldable pub paced_by : Slots → List ℕ → Cast → Cast
paced_by slots given cast = recast (ticks_of slots given) cast

-- a cast of a programme: its cast, or the same packets at other ticks
abbrev pub IsItsCast : Programme → Cast → Type 0
IsItsCast programme cast = (cast ≡ cast_of programme) ⊎ ((ticks : ℕ → ℕ) × (cast ≡ recast ticks (cast_of programme)))
