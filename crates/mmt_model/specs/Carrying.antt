-- What the packets of a cast carry: the units and the signalling messages of a programme, whole, in parts or in groups. A packet is found by its packet id and number, whatever the order of the packets.
use Rattle.std.specs.Prelude.{ℕ, zero, suc, ◌+◌, ◌-◌, ◌≡◌, ◌<◌, ◌≤◌, Bool, true, false, ◌&&◌, nat_lt, nat_le, ◌==◌, List, [], ◌∷◌, map, length, get_or, max, min, Option, Some, None, if◌then◌else◌}
use Rattle.std.specs.List.{AllByRecursion}
use Rattle.mmt_base.specs.Ticks.{due_of}
use Rattle.mmt_base.specs.declared.ticks.LongTick.{LongTick}
use Rattle.mmt_model.specs.Broadcast.{Broadcast, CopyPlaces, UnitPlaces}
use Rattle.mmt_model.specs.Counts.{member}
use Rattle.mmt_model.specs.Entries.{Entry, last_due}
use Rattle.mmt_model.specs.Handing.{time_for}
use Rattle.mmt_model.specs.Packets.{DataUnit, Payload}
use Rattle.mmt_model.specs.Survival.{SentPackets, no_packet, sent_at}
use Rattle.mmt_model.specs.Units.{MediaUnit, joined}
use Rattle.mmt_model.specs.declared.casts.Carries.{Carries}
use Rattle.mmt_model.specs.declared.casts.Cast.{Cast}
use Rattle.mmt_model.specs.declared.casts.Sent.{Sent}
use Rattle.mmt_model.specs.declared.casts.SentMpu.{SentMpu}
use Rattle.mmt_model.specs.declared.casts.SentUnit.{SentUnit}
use Rattle.mmt_model.specs.declared.casts.TableCopy.{TableCopy}
use Rattle.mmt_model.specs.declared.keys.Part.{Part}
use Rattle.mmt_model.specs.declared.casts.Carries.TheVariants as carries
use Rattle.mmt_model.specs.declared.keys.Part.TheVariants as parts
use Rattle.mmt_model.specs.declared.keys.UnitKey.TheVariants as keys

-- what a sender puts into the packets of a cast: the entry by which the MPU at a place of the cast is named, whether the unit at a place is of timed media, its data unit whole, its bytes by parts, and the bytes of the programme's signalling messages by parts
pub record Contents : Type 0 where
  pub entry : ℕ → Entry
  pub timed : ℕ → Bool
  pub data_unit : ℕ → DataUnit
  pub part : ℕ → ℕ → List ℕ
  pub message_part : ℕ → ℕ → List ℕ

-- a unit, for places outside a cast
abbrev pub no_sent_unit : SentUnit
no_sent_unit = record { asset = 0; mpu = 0; unit = 0; key = keys.Item 0; time = record { 0 = 0 }; due = record { 0 = 0 }; first = record { 0 = 0 }; last = record { 0 = 0 }; first_number = 0; count = 0 }

-- an MPU, for places outside a cast
abbrev pub no_sent_mpu : SentMpu
no_sent_mpu = record { asset = 0; mpu = 0; least = record { 0 = 0 }; last = record { 0 = 0 }; named_from = None }

-- a table copy, for places outside a cast
abbrev pub no_table_copy : TableCopy
no_table_copy = record { signal = 0; names = []; first = record { 0 = 0 }; last = record { 0 = 0 }; first_number = 0; count = 0 }

-- the unit at a place of a cast
unfoldable pub sent_unit : Cast → ℕ → SentUnit
sent_unit cast u = get_or cast.units u no_sent_unit

-- the MPU at a place of a cast
unfoldable pub sent_mpu : Cast → ℕ → SentMpu
sent_mpu cast m = get_or cast.mpus m no_sent_mpu

-- the table copy at a place of a cast
unfoldable pub table_copy : Cast → ℕ → TableCopy
table_copy cast c = get_or cast.copies c no_table_copy

-- first, first + 1, ..: `count` numbers
unfoldable pub numbers : ℕ → ℕ → List ℕ
numbers first zero = []
numbers first (suc count) = first ∷ numbers (first + 1) count

-- the place of the packet with this packet id and number
unfoldable pub place_of : List Sent → ℕ → ℕ → ℕ
place_of [] packet_id number = 0
place_of (p ∷ ps) packet_id number = if (p.packet_id == packet_id) && (p.number == number) then 0 else suc (place_of ps packet_id number)

-- the place of the MPU that stands here in the programme
unfoldable pub mpu_place : List SentMpu → ℕ → ℕ → ℕ
mpu_place [] asset mpu = 0
mpu_place (m ∷ ms) asset mpu = if (m.asset == asset) && (m.mpu == mpu) then 0 else suc (mpu_place ms asset mpu)

-- the place of the table copy that is this signalling message of the programme
unfoldable pub copy_place : List TableCopy → ℕ → ℕ
copy_place [] signal = 0
copy_place (c ∷ cs) signal = if c.signal == signal then 0 else suc (copy_place cs signal)

-- the place of a unit's MPU among the cast's MPUs
unfoldable pub mpu_of : Cast → ℕ → ℕ
mpu_of cast u = mpu_place cast.mpus (sent_unit cast u).asset (sent_unit cast u).mpu

-- the entry by which a unit's MPU is named
unfoldable pub entry_of_unit : Cast → Contents → ℕ → Entry
entry_of_unit cast contents u = contents.entry (mpu_of cast u)

-- part number k of count, of a unit or message in parts (ISO/IEC 23008-1, the fragmentation indicator)
unfoldable pub role : ℕ → ℕ → Part
role k count = if k == 0 then parts.First else (if k + 1 == count then parts.Last else parts.Middle)

-- the data unit of a part: it has the header of the whole
abbrev pub part_of_unit : Contents → ℕ → ℕ → DataUnit
part_of_unit contents u k = record { key = (contents.data_unit u).key; priority = (contents.data_unit u).priority; dependency = (contents.data_unit u).dependency; bytes = contents.part u k }

-- what the payload of a packet spells, by what it carries (ISO/IEC 23008-1, the MPU and the signalling payload)
unfoldable pub payload_carried : Cast → Contents → Carries → Payload
payload_carried cast contents (carries.Whole u) = Payload.Media parts.Whole (contents.timed u) (entry_of_unit cast contents u).mpu (contents.data_unit u ∷ [])
payload_carried cast contents (carries.Fragment u k) = Payload.Media (role k (sent_unit cast u).count) (contents.timed u) (entry_of_unit cast contents u).mpu (part_of_unit contents u k ∷ [])
payload_carried cast contents (carries.Group f c) = Payload.Media parts.Whole (contents.timed f) (entry_of_unit cast contents f).mpu (map contents.data_unit (numbers f c))
payload_carried cast contents (carries.Parameters s) = Payload.Signalling parts.Whole (contents.message_part s 0 ∷ [])
payload_carried cast contents (carries.Table s) = Payload.Signalling parts.Whole (contents.message_part s 0 ∷ [])
payload_carried cast contents (carries.TablePart s k) = Payload.Signalling (role k (table_copy cast (copy_place cast.copies s)).count) (contents.message_part s k ∷ [])

-- whether a packet carries part k of unit u
unfoldable pub has_part : ℕ → ℕ → Carries → Bool
has_part u k (carries.Whole v) = (v == u) && (k == 0)
has_part u k (carries.Fragment v j) = (v == u) && (k == j)
has_part u k (carries.Group f c) = (nat_le f u && nat_lt u (f + c)) && (k == 0)
has_part u k (carries.Parameters s) = false
has_part u k (carries.Table s) = false
has_part u k (carries.TablePart s j) = false

-- whether a packet carries part k of the table that is this signalling message
unfoldable pub has_table_part : ℕ → ℕ → Carries → Bool
has_table_part signal k (carries.Table s) = (s == signal) && (k == 0)
has_table_part signal k (carries.TablePart s j) = (s == signal) && (k == j)
has_table_part signal k (carries.Whole u) = false
has_table_part signal k (carries.Fragment u j) = false
has_table_part signal k (carries.Group f c) = false
has_table_part signal k (carries.Parameters s) = false

-- a unit's place among the data units of its packet
unfoldable pub place_in : Carries → ℕ → ℕ
place_in (carries.Group f c) u = u - f
place_in (carries.Whole v) u = 0
place_in (carries.Fragment v k) u = 0
place_in (carries.Parameters s) u = 0
place_in (carries.Table s) u = 0
place_in (carries.TablePart s k) u = 0

-- the places of the packets of a unit: those of its packet id and its numbers
unfoldable pub places_of_unit : Cast → Contents → ℕ → List ℕ
places_of_unit cast contents u = map (place_of cast.packets (entry_of_unit cast contents u).packet_id) (numbers (sent_unit cast u).first_number (sent_unit cast u).count)

-- the places of the packets of a table copy: those of packet id 0 and its numbers
unfoldable pub places_of_copy : List Sent → TableCopy → List ℕ
places_of_copy packets c = map (place_of packets 0) (numbers c.first_number c.count)

-- the media unit that a sent unit is
unfoldable pub unit_sent : Cast → Contents → ℕ → MediaUnit
unit_sent cast contents u =
    record {
      packet_id = (entry_of_unit cast contents u).packet_id;
      mpu = (entry_of_unit cast contents u).mpu;
      key = (contents.data_unit u).key;
      priority = (contents.data_unit u).priority;
      dependency = (contents.data_unit u).dependency;
      number = (sent_unit cast u).first_number;
      place = place_in (get_or cast.packets (place_of cast.packets (entry_of_unit cast contents u).packet_id (sent_unit cast u).first_number) no_packet).carries u;
      bytes = (contents.data_unit u).bytes;
    }

-- a sent unit by places
abbrev pub unit_places : Cast → Contents → ℕ → UnitPlaces
unit_places cast contents u = record { mpu = mpu_of cast u; value = unit_sent cast contents u; members = places_of_unit cast contents u }

-- a table copy by places
abbrev pub copy_places : List Sent → TableCopy → CopyPlaces
copy_places packets c = record { names = c.names; members = places_of_copy packets c }

-- the packets of a cast with their payloads
abbrev pub packets_of : Cast → Contents → SentPackets
packets_of cast contents = record { sent = cast.packets; payload = λ n. payload_carried cast contents (get_or cast.packets n no_packet).carries }

-- a cast with what is read of it. Its first access unit goes with sample 1
abbrev pub broadcast_of : Cast → Contents → Broadcast
broadcast_of cast contents =
    record {
      cast = record {
        packets = packets_of cast contents;
        mpus = map contents.entry (numbers 0 (length cast.mpus));
        copies = map (copy_places cast.packets) cast.copies;
      };
      units = map (unit_places cast contents) (numbers 0 (length cast.units));
      sample_base = 1;
    }

-- the packet at place n has this packet id and number
pub record IsPacketAt (packets : List Sent) (n packet_id number : ℕ) : Type 0 where
  pub of : n < length packets
  pub has_id : (get_or packets n no_packet).packet_id ≡ packet_id
  pub has_number : (get_or packets n no_packet).number ≡ number

-- what a packet carries goes with its packet id and number
abbrev pub IsInItsPlace : Cast → Contents → ℕ → ℕ → Carries → Type 0
IsInItsPlace cast contents packet_id number (carries.Whole u) =
    (u < length cast.units) × (packet_id ≡ (entry_of_unit cast contents u).packet_id) × (number ≡ (sent_unit cast u).first_number) × ((sent_unit cast u).count ≡ 1)
IsInItsPlace cast contents packet_id number (carries.Fragment u k) =
    (u < length cast.units) × (packet_id ≡ (entry_of_unit cast contents u).packet_id) × (number ≡ (sent_unit cast u).first_number + k) × (k < (sent_unit cast u).count) × (2 ≤ (sent_unit cast u).count)
IsInItsPlace cast contents packet_id number (carries.Group f c) =
    (f + c ≤ length cast.units)
    × ((u : ℕ) → f ≤ u → u < f + c → (packet_id ≡ (entry_of_unit cast contents u).packet_id) × (number ≡ (sent_unit cast u).first_number) × ((sent_unit cast u).count ≡ 1) × (contents.timed u ≡ contents.timed f) × (mpu_of cast u ≡ mpu_of cast f))
IsInItsPlace cast contents packet_id number (carries.Parameters s) = Unit {0}
IsInItsPlace cast contents packet_id number (carries.Table s) =
    let copy = table_copy cast (copy_place cast.copies s) in
    (copy_place cast.copies s < length cast.copies) × (packet_id ≡ 0) × (number ≡ copy.first_number) × (copy.count ≡ 1)
IsInItsPlace cast contents packet_id number (carries.TablePart s k) =
    let copy = table_copy cast (copy_place cast.copies s) in
    (copy_place cast.copies s < length cast.copies) × (packet_id ≡ 0) × (number ≡ copy.first_number + k) × (k < copy.count) × (2 ≤ copy.count)

-- the least timestamp of the packets at these places
unfoldable pub first_of_places : List Sent → List ℕ → ℕ
first_of_places packets [] = 0
first_of_places packets (n ∷ []) = sent_at packets n
first_of_places packets (n ∷ m ∷ ns) = min (sent_at packets n) (first_of_places packets (m ∷ ns))

-- the greatest timestamp of the packets at these places
unfoldable pub last_of_places : List Sent → List ℕ → ℕ
last_of_places packets [] = 0
last_of_places packets (n ∷ ns) = max (sent_at packets n) (last_of_places packets ns)

-- the lesser of a number and one that may be there
abbrev pub least_with : ℕ → Option ℕ → ℕ
least_with tick None = tick
least_with tick (Some other) = min tick other

-- the least tick at which a copy that names the MPU ends, where one names it
unfoldable pub named_from_of : ℕ → List TableCopy → Option ℕ
named_from_of m [] = None
named_from_of m (c ∷ cs) = if member m c.names then Some (least_with c.last.0 (named_from_of m cs)) else named_from_of m cs

-- the tick in an option
abbrev pub tick_of : Option LongTick → Option ℕ
tick_of None = None
tick_of (Some t) = Some t.0

-- a unit of a cast stands in the packets of its packet id and numbers
pub record IsSentUnit (cast : Cast) (contents : Contents) (u : ℕ) : Type 0 where
  -- its MPU is one of the cast
  pub known : mpu_of cast u < length cast.mpus
  -- it has a packet
  pub some : 1 ≤ (sent_unit cast u).count
  -- its numbers do not wrap
  pub low : (sent_unit cast u).first_number + (sent_unit cast u).count ≤ 4294967296
  -- the packet of each of its numbers is there and carries its part
  pub each : (k : ℕ) → k < (sent_unit cast u).count → let n = place_of cast.packets (entry_of_unit cast contents u).packet_id ((sent_unit cast u).first_number + k) in
      IsPacketAt cast.packets n (entry_of_unit cast contents u).packet_id ((sent_unit cast u).first_number + k) × (has_part u k (get_or cast.packets n no_packet).carries ≡ true)
  -- its parts joined are its bytes
  pub whole : joined (map (contents.part u) (numbers 0 (sent_unit cast u).count)) ≡ (contents.data_unit u).bytes
  -- its key, its time by its MPU's entry, its due tick, and the timestamps between which it is sent
  pub key : (contents.data_unit u).key ≡ (sent_unit cast u).key
  pub time : (sent_unit cast u).time.0 ≡ time_for 1 (entry_of_unit cast contents u) (sent_unit cast u).key
  pub due : (sent_unit cast u).due.0 ≡ due_of (sent_unit cast u).time.0
  pub first : (sent_unit cast u).first.0 ≡ first_of_places cast.packets (places_of_unit cast contents u)
  pub last : (sent_unit cast u).last.0 ≡ last_of_places cast.packets (places_of_unit cast contents u)

-- a table copy of a cast stands in the packets of packet id 0 and its numbers
pub record IsSentCopy (cast : Cast) (contents : Contents) (names_in : List ℕ → List Entry) (c : ℕ) : Type 0 where
  -- no copy before it is the same signalling message
  pub own : copy_place cast.copies (table_copy cast c).signal ≡ c
  -- it has a packet
  pub some : 1 ≤ (table_copy cast c).count
  -- its numbers do not wrap
  pub low : (table_copy cast c).first_number + (table_copy cast c).count ≤ 4294967296
  -- the packet of each of its numbers is there and carries its part
  pub each : (k : ℕ) → k < (table_copy cast c).count → let n = place_of cast.packets 0 ((table_copy cast c).first_number + k) in
      IsPacketAt cast.packets n 0 ((table_copy cast c).first_number + k) × (has_table_part (table_copy cast c).signal k (get_or cast.packets n no_packet).carries ≡ true)
  -- its message has at most 131,072 bytes, and its table has the entries of the MPUs that it names, in order
  pub short : length (joined (map (contents.message_part (table_copy cast c).signal) (numbers 0 (table_copy cast c).count))) ≤ 131072
  pub names : map contents.entry (table_copy cast c).names ≡ names_in (joined (map (contents.message_part (table_copy cast c).signal) (numbers 0 (table_copy cast c).count)))
  -- the MPUs that it names are of the cast
  pub known : AllByRecursion (λ m. m < length cast.mpus) (table_copy cast c).names
  -- the timestamps between which it is sent
  pub first : (table_copy cast c).first.0 ≡ first_of_places cast.packets (places_of_copy cast.packets (table_copy cast c))
  pub last : (table_copy cast c).last.0 ≡ last_of_places cast.packets (places_of_copy cast.packets (table_copy cast c))

-- a cast goes with these contents, as that of a right programme does. `names_in` are the names of the tables in a message
pub record IsCastOf (cast : Cast) (contents : Contents) (names_in : List ℕ → List Entry) : Type 0 where
  -- what each packet carries goes with its packet id and number
  pub packet : (n : ℕ) → n < length cast.packets → IsInItsPlace cast contents (get_or cast.packets n no_packet).packet_id (get_or cast.packets n no_packet).number (get_or cast.packets n no_packet).carries
  pub unit : (u : ℕ) → u < length cast.units → IsSentUnit cast contents u
  pub copy : (c : ℕ) → c < length cast.copies → IsSentCopy cast contents names_in c
  -- a buffer message names nothing
  pub parameters : (n s : ℕ) → n < length cast.packets → (get_or cast.packets n no_packet).carries ≡ carries.Parameters s → names_in (contents.message_part s 0) ≡ []
  -- packet id and MPU number tell MPUs apart
  pub mpus_differ : (m j : ℕ) → m < length cast.mpus → j < length cast.mpus → (contents.entry m).packet_id ≡ (contents.entry j).packet_id → (contents.entry m).mpu ≡ (contents.entry j).mpu → m ≡ j
  -- the units of each MPU stand side by side
  pub side_by_side : (u w v : ℕ) → u < w → w < v → v < length cast.units → mpu_of cast u ≡ mpu_of cast v → mpu_of cast w ≡ mpu_of cast u
  -- the last due tick of an MPU is that of its entry
  pub mpu_last : (m : ℕ) → m < length cast.mpus → (sent_mpu cast m).last.0 ≡ last_due (contents.entry m)
  -- an MPU is named from the least tick at which a copy that names it ends
  pub named_from : (m : ℕ) → m < length cast.mpus → tick_of (sent_mpu cast m).named_from ≡ named_from_of m cast.copies
