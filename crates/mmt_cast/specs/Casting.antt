-- The cast of a programme: its packets with their numbers, sorted, and its units, MPUs and table copies by their packets.
use Rattle.std.specs.Prelude.{ℕ, suc, ◌+◌, Bool, false, ◌&&◌, nat_lt, nat_le, ◌==◌, List, [], ◌∷◌, ◌++◌, map, length, max, min, Option, Some, None, get_or, if◌then◌else◌}
use Rattle.std.specs.List.{count_by, filter, flat_map}
use Rattle.mmt_base.specs.Ticks.{due_of}
use Rattle.mmt_base.specs.declared.ticks.LongTick.{LongTick}
use Rattle.mmt_cast.specs.Placing.{PlacedMpu, PlacedUnit, all_mpus, all_units, entry_of_mpu, flat_map_from, map_from}
use Rattle.mmt_cast.specs.Sending.{packets_of, sendings}
use Rattle.mmt_model.specs.Carrying.{named_from_of}
use Rattle.mmt_model.specs.Entries.{last_due}
use Rattle.mmt_model.specs.Handing.{precedes, time_for}
use Rattle.mmt_model.specs.Sorted.{sort_by}
use Rattle.mmt_model.specs.Survival.{no_packet}
use Rattle.mmt_model.specs.declared.casts.Carries.{Carries}
use Rattle.mmt_model.specs.declared.casts.Cast.{Cast}
use Rattle.mmt_model.specs.declared.casts.Sent.{Sent}
use Rattle.mmt_model.specs.declared.casts.SentMpu.{SentMpu}
use Rattle.mmt_model.specs.declared.casts.SentUnit.{SentUnit}
use Rattle.mmt_model.specs.declared.casts.TableCopy.{TableCopy}
use Rattle.mmt_model.specs.declared.programmes.Programme.{Programme}
use Rattle.mmt_model.specs.declared.programmes.Signal.{Signal}
use Rattle.mmt_model.specs.declared.casts.Carries.TheVariants as carries
use Rattle.mmt_model.specs.declared.programmes.Signal.TheVariants as signals

-- ---- packets

-- a packet with this number
unfoldable pub with_number : Sent → ℕ → Sent
with_number p n = record p { number = n }

-- how many of these packets have a packet id
unfoldable pub count_of_id : ℕ → List Sent → ℕ
count_of_id packet_id packets = count_by (λ p. p.packet_id == packet_id) packets

-- each packet id numbers its packets from 0 in the order of the plan: a packet's number is how many before it have its packet id
unfoldable pub numbered_after : List Sent → List Sent → List Sent
numbered_after earlier [] = []
numbered_after earlier (p ∷ rest) = with_number p (count_of_id p.packet_id earlier) ∷ numbered_after (earlier ++ p ∷ []) rest

-- the packets of a programme with their numbers, in the order of the plan
unfoldable pub planned : Programme → List Sent
planned programme = numbered_after [] (flat_map (packets_of programme) (sendings programme))

-- the order of a cast: timestamp, packet id and number
unfoldable pub is_sent_before : Sent → Sent → Bool
is_sent_before p q = precedes (p.at.0 ∷ p.packet_id ∷ p.number ∷ []) (q.at.0 ∷ q.packet_id ∷ q.number ∷ [])

-- ---- what packets carry

-- a packet carries a unit or a part of it
unfoldable pub has_unit : ℕ → Carries → Bool
has_unit u (carries.Whole v) = v == u
has_unit u (carries.Fragment v k) = v == u
has_unit u (carries.Group f c) = nat_le f u && nat_lt u (f + c)
has_unit u (carries.Parameters s) = false
has_unit u (carries.Table s) = false
has_unit u (carries.TablePart s k) = false

-- a packet carries a table or a part of it
unfoldable pub has_table : ℕ → Carries → Bool
has_table signal (carries.Table s) = s == signal
has_table signal (carries.TablePart s k) = s == signal
has_table signal (carries.Whole u) = false
has_table signal (carries.Fragment u k) = false
has_table signal (carries.Group f c) = false
has_table signal (carries.Parameters s) = false

-- the least of these numbers, and 0 where there is none
unfoldable pub least : List ℕ → ℕ
least [] = 0
least (n ∷ []) = n
least (n ∷ m ∷ ns) = min n (least (m ∷ ns))

-- the greatest of these numbers, and 0 where there is none
unfoldable pub greatest : List ℕ → ℕ
greatest [] = 0
greatest (n ∷ ns) = max n (greatest ns)

-- the first and the last timestamp of packets in the order of their numbers, and their first number and count
pub record Span : Type 0 where
  pub first : LongTick
  pub last : LongTick
  pub first_number : ℕ
  pub count : ℕ

-- when a packet is sent
abbrev pub tick_of_sent : Sent → ℕ
tick_of_sent p = p.at.0

-- the span of these packets
unfoldable pub span_of : List Sent → Span
span_of packets =
    record {
      first = record { 0 = least (map tick_of_sent packets) };
      last = record { 0 = greatest (map tick_of_sent packets) };
      first_number = (get_or packets 0 no_packet).number;
      count = length packets;
    }

-- the span of a unit's packets
unfoldable pub span_of_unit : Programme → ℕ → Span
span_of_unit programme u = span_of (filter (λ p. has_unit u p.carries) (planned programme))

-- the span of a table's packets
unfoldable pub span_of_table : Programme → ℕ → Span
span_of_table programme signal = span_of (filter (λ p. has_table signal p.carries) (planned programme))

-- ---- units, MPUs and table copies

-- the time of a unit: that of its MPU's entry, sample 1 being the first access unit
unfoldable pub time_of_unit : PlacedUnit → ℕ
time_of_unit x = time_for 1 (entry_of_mpu x.in_mpu) x.value.key

-- the due tick of a unit
unfoldable pub due_of_placed : PlacedUnit → ℕ
due_of_placed x = due_of (time_of_unit x)

-- a unit as it is sent
unfoldable pub unit_as_sent : Programme → ℕ → PlacedUnit → SentUnit
unit_as_sent programme u x =
    let span = span_of_unit programme u in
    record {
      asset = x.in_mpu.asset;
      mpu = x.in_mpu.mpu;
      unit = x.unit;
      key = x.value.key;
      time = record { 0 = time_of_unit x };
      due = record { 0 = due_of_placed x };
      first = span.first;
      last = span.last;
      first_number = span.first_number;
      count = span.count;
    }

-- the place among these MPUs of the one that stands here in the programme
unfoldable pub place_of_mpu : List PlacedMpu → ℕ × ℕ → ℕ
place_of_mpu [] name = 0
place_of_mpu (m ∷ ms) name = if (m.asset == name.0) && (m.mpu == name.1) then 0 else suc (place_of_mpu ms name)

-- a signalling message as a table copy, where it is a table
unfoldable pub copy_as_sent : Programme → ℕ → Signal → List TableCopy
copy_as_sent programme s (signals.Parameters at) = []
copy_as_sent programme s (signals.Table at names) =
    let span = span_of_table programme s in
    record { signal = s; names = map (place_of_mpu (all_mpus programme)) names; first = span.first; last = span.last; first_number = span.first_number; count = span.count } ∷ []

-- the table copies of a programme
unfoldable pub copies_as_sent : Programme → List TableCopy
copies_as_sent programme = flat_map_from (copy_as_sent programme) 0 programme.signals

-- a tick that may be there
abbrev pub long_tick : Option ℕ → Option LongTick
long_tick None = None
long_tick (Some tick) = Some (record { 0 = tick })

-- an MPU as it is sent: the least due tick of its units, its last due tick, and from when it is named
unfoldable pub mpu_as_sent : Programme → ℕ → PlacedMpu → SentMpu
mpu_as_sent programme m x =
    record {
      asset = x.asset;
      mpu = x.mpu;
      least = record { 0 = least (map due_of_placed (filter (λ y. y.mpu_place == m) (all_units programme))) };
      last = record { 0 = last_due (entry_of_mpu x) };
      named_from = long_tick (named_from_of m (copies_as_sent programme));
    }

-- the cast of a programme
unfoldable pub cast_of : Programme → Cast
cast_of programme =
    record {
      params = programme.params;
      packets = sort_by is_sent_before (planned programme);
      units = map_from (unit_as_sent programme) 0 (all_units programme);
      mpus = map_from (mpu_as_sent programme) 0 (all_mpus programme);
      copies = copies_as_sent programme;
    }
