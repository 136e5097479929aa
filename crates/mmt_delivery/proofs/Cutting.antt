-- How the units and the table copies of a broadcast are cut into its packets.
use Rattle.std.specs.Prelude.{ℕ, suc, ◌+◌, ◌^◌, ◌≡◌, ◌<◌, ◌≤◌, ◌⊎◌, Bool, true, ◌&&◌, nat_lt, ◌==◌, List, [], ◌∷◌, map, length, get_or}
use Rattle.std.specs.List.{filter, flat_map}
use Rattle.std.specs.List.{AllByRecursion}
use Rattle.mmt_model.specs.Broadcast.{Broadcast, CopyPlaces, NamedCast, entry_of, unit_of}
use Rattle.mmt_model.specs.Counts.{as_number, member, occurrences}
use Rattle.mmt_model.specs.Entries.{Entry}
use Rattle.mmt_model.specs.Packets.{DataUnit, Payload}
use Rattle.mmt_model.specs.Survival.{SentPackets, heard_of, no_packet}
use Rattle.mmt_model.specs.Units.{Link, joined, media_link, next_number, signal_link, unit_from, whole_units}
use Rattle.mmt_model.specs.declared.keys.Part.TheVariants as parts

-- the packet at place n has this packet id and number
pub record IsAt (packets : SentPackets) (n packet_id number : ℕ) : Type 0 where
  pub of : n < length packets.sent
  pub has_id : (get_or packets.sent n no_packet).packet_id ≡ packet_id
  pub has_number : (get_or packets.sent n no_packet).number ≡ number

unfoldable pub payload_of : SentPackets → ℕ → Payload
payload_of packets n = (packets.payload n)

-- the packets at these places have the numbers from number on, and go on a rest_of_run up to its end, with these bytes
abbrev pub IsChain : SentPackets → (Payload → Link) → ℕ → ℕ → List ℕ → List (List ℕ) → Type 0
IsChain packets link packet_id number [] parts = ⊥
IsChain packets link packet_id number (n ∷ []) [] = ⊥
IsChain packets link packet_id number (n ∷ []) (b ∷ []) = IsAt packets n packet_id number × (link (payload_of packets n) ≡ Link.End b)
IsChain packets link packet_id number (n ∷ []) (b ∷ c ∷ parts) = ⊥
IsChain packets link packet_id number (n ∷ m ∷ ns) [] = ⊥
IsChain packets link packet_id number (n ∷ m ∷ ns) (b ∷ parts) =
    IsAt packets n packet_id number × (link (payload_of packets n) ≡ Link.Inner b) × IsChain packets link packet_id (next_number number) (m ∷ ns) parts

-- the unit at place u begins with the packet at place n, and goes on with others
pub record IsFragmented (broadcast : Broadcast) (n u : ℕ) (timed : Bool) (mpu : ℕ) (data_unit : DataUnit) : Type 0 where
  pub rest : List ℕ
  pub parts : List (List ℕ)
  pub members : (unit_of broadcast u).members ≡ n ∷ rest
  pub chain : IsChain broadcast.cast.packets (media_link timed mpu) (heard_of broadcast.cast.packets n).packet_id (next_number (heard_of broadcast.cast.packets n).number) rest parts
  pub value : (unit_of broadcast u).value ≡ unit_from (heard_of broadcast.cast.packets n) mpu 0 data_unit (joined (data_unit.bytes ∷ parts))

-- the units that begin with the packet at place n are these
abbrev pub BeginsWith : Broadcast → List ℕ → ℕ → Payload → Type 0
BeginsWith broadcast us n (Payload.Media parts.Whole timed mpu data_units) =
    (map (λ u. (unit_of broadcast u).value) us ≡ whole_units (heard_of broadcast.cast.packets n) mpu 0 data_units) × AllByRecursion (λ u. (unit_of broadcast u).members ≡ n ∷ []) us
BeginsWith broadcast us n (Payload.Media parts.First timed mpu (data_unit ∷ [])) = (u : ℕ) × (us ≡ u ∷ []) × IsFragmented broadcast n u timed mpu data_unit
BeginsWith broadcast us n _ = us ≡ []

abbrev pub first_of : List ℕ → ℕ
first_of [] = 0
first_of (n ∷ ns) = n

-- each unit is cut into its packets, and no packet has another
pub record IsCut (broadcast : Broadcast) (starts : ℕ → List ℕ) : Type 0 where
  pub begins : (n : ℕ) → n < length broadcast.cast.packets.sent → BeginsWith broadcast (starts n) n (payload_of broadcast.cast.packets n)
  pub once : (u n : ℕ) → n < length broadcast.cast.packets.sent → occurrences u (starts n) ≡ as_number (nat_lt u (length broadcast.units) && (n == first_of (unit_of broadcast u).members))
  pub distinct : (u : ℕ) → u < length broadcast.units → (k : ℕ) → occurrences k (unit_of broadcast u).members ≤ 1

-- A message in parts: it begins with the packet at place f and its bytes b. tail f are the places of its other packets, and head n is the first place of the message of n
pub record IsTable (packets : SentPackets) (head : ℕ → ℕ) (tail : ℕ → List ℕ) (f : ℕ) (b : List ℕ) : Type 0 where
  pub parts : List (List ℕ)
  pub of : f < length packets.sent
  pub chain : IsChain packets signal_link (heard_of packets f).packet_id (next_number (heard_of packets f).number) (tail f) parts
  pub short : length (joined (b ∷ parts)) ≤ 131072
  pub low : (heard_of packets f).number + suc (length (tail f)) ≤ 2 ^ 32
  pub once : (k : ℕ) → occurrences k (tail f) ≤ 1
  pub heads : AllByRecursion (λ k. head k ≡ f) (f ∷ tail f)

-- the packet at place n is a part of a table copy
pub record IsTablePart (cast : NamedCast) (names_in : List ℕ → List Entry) (head : ℕ → ℕ) (tail : ℕ → List ℕ) (n : ℕ) : Type 0 where
  pub copy : CopyPlaces
  pub only : filter (λ c. member n c.members) cast.copies ≡ copy ∷ []
  pub members : copy.members ≡ head n ∷ tail (head n)
  pub is_in : member n (head n ∷ tail (head n)) ≡ true
  pub bytes : List ℕ
  pub first : payload_of cast.packets (head n) ≡ Payload.Signalling parts.First (bytes ∷ [])
  pub table : IsTable cast.packets head tail (head n) bytes
  pub names : map (entry_of cast) copy.names ≡ names_in (joined (bytes ∷ table.parts))

-- a whole payload holds no table copy, or one
abbrev pub NamesOfWhole : NamedCast → (List ℕ → List Entry) → ℕ → List (List ℕ) → Type 0
NamesOfWhole cast names_in n messages =
    ((filter (λ c. member n c.members) cast.copies ≡ []) × (flat_map names_in messages ≡ []))
    ⊎ ((c : CopyPlaces) × (filter (λ c. member n c.members) cast.copies ≡ c ∷ []) × (c.members ≡ n ∷ []) × (map (entry_of cast) c.names ≡ flat_map names_in messages))

abbrev pub NamesOf : NamedCast → (List ℕ → List Entry) → (ℕ → ℕ) → (ℕ → List ℕ) → ℕ → Payload → Type 0
NamesOf cast names_in head tail n (Payload.Signalling parts.Whole messages) = NamesOfWhole cast names_in n messages
NamesOf cast names_in head tail n (Payload.Signalling parts.First messages) = (head n ≡ n) × IsTablePart cast names_in head tail n
NamesOf cast names_in head tail n (Payload.Signalling parts.Middle messages) = IsTablePart cast names_in head tail n
NamesOf cast names_in head tail n (Payload.Signalling parts.Last messages) = IsTablePart cast names_in head tail n
NamesOf cast names_in head tail n (Payload.Media part timed mpu data_units) = filter (λ c. member n c.members) cast.copies ≡ []
NamesOf cast names_in head tail n Payload.Other = filter (λ c. member n c.members) cast.copies ≡ []

pub record AreTables (cast : NamedCast) (names_in : List ℕ → List Entry) (head : ℕ → ℕ) (tail : ℕ → List ℕ) : Type 0 where
  pub names_by : (n : ℕ) → n < length cast.packets.sent → NamesOf cast names_in head tail n (payload_of cast.packets n)
