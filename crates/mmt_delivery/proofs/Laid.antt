-- How packets carry units and table copies: by packet id and number, whatever the order of the packets.
use Rattle.std.specs.Prelude.{ℕ, zero, suc, ◌+◌, ◌-◌, ◌^◌, ◌≡◌, ◌<◌, ◌≤◌, Bool, true, false, ◌&&◌, nat_lt, nat_le, ◌==◌, List, [], ◌∷◌, map, length, get_or}
use Rattle.mmt_delivery.proofs.Cutting.{IsAt, payload_of}
use Rattle.mmt_model.specs.Broadcast.{Broadcast, CopyPlaces, entry_of, unit_of}
use Rattle.mmt_model.specs.Carrying.{numbers, place_of, role}
use Rattle.mmt_model.specs.Entries.{Entry}
use Rattle.mmt_model.specs.Packets.{DataUnit, Payload}
use Rattle.mmt_model.specs.Survival.{no_packet}
use Rattle.mmt_model.specs.Units.{joined}
use Rattle.mmt_model.specs.declared.keys.Part.TheVariants as parts

pub data Holding : Type 0 where
  Whole : (unit : ℕ) → Holding
  Fragment : (unit part : ℕ) → Holding
  Group : (first count : ℕ) → Holding
  Parameters : (bytes : List ℕ) → Holding
  Table : (copy : ℕ) → Holding
  TablePart : (copy part : ℕ) → Holding

pub record Layout : Type 0 where
  pub holds : ℕ → Holding
  pub packet_id : ℕ → ℕ
  pub first : ℕ → ℕ
  pub count : ℕ → ℕ
  pub timed : ℕ → Bool
  pub mpu : ℕ → ℕ
  pub data_unit : ℕ → DataUnit
  pub part : ℕ → ℕ → List ℕ
  pub copy_first : ℕ → ℕ
  pub copy_count : ℕ → ℕ
  pub copy_part : ℕ → ℕ → List ℕ

unfoldable pub payload_by : Layout → Holding → Payload
payload_by l (Holding.Whole u) = Payload.Media parts.Whole (l.timed u) (l.mpu u) (l.data_unit u ∷ [])
payload_by l (Holding.Fragment u k) =
    Payload.Media (role k (l.count u)) (l.timed u) (l.mpu u) (record { key = (l.data_unit u).key; priority = (l.data_unit u).priority; dependency = (l.data_unit u).dependency; bytes = l.part u k } ∷ [])
payload_by l (Holding.Group f c) = Payload.Media parts.Whole (l.timed f) (l.mpu f) (map l.data_unit (numbers f c))
payload_by l (Holding.Parameters bytes) = Payload.Signalling parts.Whole (bytes ∷ [])
payload_by l (Holding.Table c) = Payload.Signalling parts.Whole (l.copy_part c 0 ∷ [])
payload_by l (Holding.TablePart c k) = Payload.Signalling (role k (l.copy_count c)) (l.copy_part c k ∷ [])

-- what a packet carries stands under its packet id and number
abbrev pub IsPlaced : Broadcast → Layout → ℕ → ℕ → Holding → Type 0
IsPlaced broadcast l packet_id number (Holding.Whole u) = (u < length broadcast.units) × (packet_id ≡ l.packet_id u) × (number ≡ l.first u) × (l.count u ≡ 1)
IsPlaced broadcast l packet_id number (Holding.Fragment u k) = (u < length broadcast.units) × (packet_id ≡ l.packet_id u) × (number ≡ l.first u + k) × (k < l.count u) × (2 ≤ l.count u)
IsPlaced broadcast l packet_id number (Holding.Group f c) =
    (f + c ≤ length broadcast.units) × ((u : ℕ) → f ≤ u → u < f + c → (packet_id ≡ l.packet_id u) × (number ≡ l.first u) × (l.count u ≡ 1) × (l.timed u ≡ l.timed f) × (l.mpu u ≡ l.mpu f))
IsPlaced broadcast l packet_id number (Holding.Parameters bytes) = Unit {0}
IsPlaced broadcast l packet_id number (Holding.Table c) = (c < length broadcast.cast.copies) × (packet_id ≡ 0) × (number ≡ l.copy_first c) × (l.copy_count c ≡ 1)
IsPlaced broadcast l packet_id number (Holding.TablePart c k) = (c < length broadcast.cast.copies) × (packet_id ≡ 0) × (number ≡ l.copy_first c + k) × (k < l.copy_count c) × (2 ≤ l.copy_count c)

-- whether a packet carries part k of unit u
unfoldable pub holds_part : ℕ → ℕ → Holding → Bool
holds_part u k (Holding.Whole v) = (v == u) && (k == 0)
holds_part u k (Holding.Fragment v j) = (v == u) && (k == j)
holds_part u k (Holding.Group f c) = (nat_le f u && nat_lt u (f + c)) && (k == 0)
holds_part u k (Holding.Parameters bytes) = false
holds_part u k (Holding.Table c) = false
holds_part u k (Holding.TablePart c j) = false

-- the units that begin in a packet
unfoldable pub starts_by : Holding → List ℕ
starts_by (Holding.Whole u) = u ∷ []
starts_by (Holding.Fragment u zero) = u ∷ []
starts_by (Holding.Fragment u (suc k)) = []
starts_by (Holding.Group f c) = numbers f c
starts_by (Holding.Parameters bytes) = []
starts_by (Holding.Table c) = []
starts_by (Holding.TablePart c k) = []

-- the unit's place in its packet
unfoldable pub place_among : Holding → ℕ → ℕ
place_among (Holding.Group f c) u = u - f
place_among (Holding.Whole v) u = 0
place_among (Holding.Fragment v k) u = 0
place_among (Holding.Parameters bytes) u = 0
place_among (Holding.Table c) u = 0
place_among (Holding.TablePart c k) u = 0

pub record IsLaidUnit (broadcast : Broadcast) (l : Layout) (u : ℕ) : Type 0 where
  pub some : 1 ≤ l.count u
  pub low : l.first u + l.count u ≤ 2 ^ 32
  pub each : (k : ℕ) → k < l.count u → IsAt broadcast.cast.packets (place_of broadcast.cast.packets.sent (l.packet_id u) (l.first u + k)) (l.packet_id u) (l.first u + k)
      × (holds_part u k (l.holds (place_of broadcast.cast.packets.sent (l.packet_id u) (l.first u + k))) ≡ true)
  pub members : (unit_of broadcast u).members ≡ map (place_of broadcast.cast.packets.sent (l.packet_id u)) (numbers (l.first u) (l.count u))
  pub value : (unit_of broadcast u).value ≡ record {
    packet_id = l.packet_id u;
    mpu = l.mpu u;
    key = (l.data_unit u).key;
    priority = (l.data_unit u).priority;
    dependency = (l.data_unit u).dependency;
    number = l.first u;
    place = place_among (l.holds (place_of broadcast.cast.packets.sent (l.packet_id u) (l.first u))) u;
    bytes = (l.data_unit u).bytes;
  }
  pub whole : joined (map (l.part u) (numbers 0 (l.count u))) ≡ (l.data_unit u).bytes

pub record IsLaid (broadcast : Broadcast) (l : Layout) : Type 0 where
  pub payload : (n : ℕ) → n < length broadcast.cast.packets.sent → payload_of broadcast.cast.packets n ≡ payload_by l (l.holds n)
  pub placed : (n : ℕ) → n < length broadcast.cast.packets.sent → IsPlaced broadcast l (get_or broadcast.cast.packets.sent n no_packet).packet_id (get_or broadcast.cast.packets.sent n no_packet).number (l.holds n)
  pub unit : (u : ℕ) → u < length broadcast.units → IsLaidUnit broadcast l u

-- whether a packet carries part k of copy c
unfoldable pub holds_copy_part : ℕ → ℕ → Holding → Bool
holds_copy_part c k (Holding.Table d) = (d == c) && (k == 0)
holds_copy_part c k (Holding.TablePart d j) = (d == c) && (k == j)
holds_copy_part c k (Holding.Whole u) = false
holds_copy_part c k (Holding.Fragment u j) = false
holds_copy_part c k (Holding.Group f n) = false
holds_copy_part c k (Holding.Parameters bytes) = false

abbrev pub no_copy : CopyPlaces
no_copy = record { names = []; members = [] }

unfoldable pub copy_at : Broadcast → ℕ → CopyPlaces
copy_at broadcast c = get_or broadcast.cast.copies c no_copy

-- the first place of the table copy that a packet is a part of, and the other places
unfoldable pub head_by : Broadcast → Layout → ℕ → Holding → ℕ
head_by broadcast l n (Holding.TablePart c k) = place_of broadcast.cast.packets.sent 0 (l.copy_first c)
head_by broadcast l n (Holding.Table c) = n
head_by broadcast l n (Holding.Whole u) = n
head_by broadcast l n (Holding.Fragment u k) = n
head_by broadcast l n (Holding.Group f c) = n
head_by broadcast l n (Holding.Parameters bytes) = n

unfoldable pub tail_by : Broadcast → Layout → Holding → List ℕ
tail_by broadcast l (Holding.TablePart c k) = map (place_of broadcast.cast.packets.sent 0) (numbers (l.copy_first c + 1) (l.copy_count c - 1))
tail_by broadcast l (Holding.Table c) = []
tail_by broadcast l (Holding.Whole u) = []
tail_by broadcast l (Holding.Fragment u k) = []
tail_by broadcast l (Holding.Group f c) = []
tail_by broadcast l (Holding.Parameters bytes) = []

pub record IsLaidCopy (broadcast : Broadcast) (names_in : List ℕ → List Entry) (l : Layout) (c : ℕ) : Type 0 where
  pub some : 1 ≤ l.copy_count c
  pub low : l.copy_first c + l.copy_count c ≤ 2 ^ 32
  pub each : (k : ℕ) → k < l.copy_count c → IsAt broadcast.cast.packets (place_of broadcast.cast.packets.sent 0 (l.copy_first c + k)) 0 (l.copy_first c + k)
      × (holds_copy_part c k (l.holds (place_of broadcast.cast.packets.sent 0 (l.copy_first c + k))) ≡ true)
  pub members : (copy_at broadcast c).members ≡ map (place_of broadcast.cast.packets.sent 0) (numbers (l.copy_first c) (l.copy_count c))
  pub names : map (entry_of broadcast.cast) (copy_at broadcast c).names ≡ names_in (joined (map (l.copy_part c) (numbers 0 (l.copy_count c))))
  pub short : length (joined (map (l.copy_part c) (numbers 0 (l.copy_count c)))) ≤ 131072

pub record AreLaidCopies (broadcast : Broadcast) (names_in : List ℕ → List Entry) (l : Layout) : Type 0 where
  pub copy : (c : ℕ) → c < length broadcast.cast.copies → IsLaidCopy broadcast names_in l c
  pub parameters : (n : ℕ) (bytes : List ℕ) → n < length broadcast.cast.packets.sent → l.holds n ≡ Holding.Parameters bytes → names_in bytes ≡ []
