-- The media units and the messages of kept packets.
use Rattle.std.specs.Prelude.{ℕ, zero, suc, ◌+◌, ◌%◌, ◌^◌, Bool, true, false, not, ◌&&◌, nat_lt, nat_le, ◌==◌, List, [], ◌∷◌, ◌++◌, map, length, Option, Some, None, if◌then◌else◌}
use Rattle.std.specs.List.{filter, flat_map}
use Rattle.mmt_base.specs.Ticks.{ahead_of}
use Rattle.mmt_model.specs.Entries.{Entry}
use Rattle.mmt_model.specs.Keeping.{kept}
use Rattle.mmt_model.specs.Packets.{DataUnit, Heard, Payload}
use Rattle.mmt_model.specs.declared.keys.UnitKey.{UnitKey}
use Rattle.mmt_model.specs.declared.keys.Part.TheVariants as parts

-- a whole media unit: packet id, MPU number, key, priority, dependency, the number of its first packet, its place among that packet's data units, and its bytes (ISO/IEC 23008-1, the data unit)
pub record MediaUnit : Type 0 where
  pub packet_id : ℕ
  pub mpu : ℕ
  pub key : UnitKey
  pub priority : ℕ
  pub dependency : ℕ
  pub number : ℕ
  pub place : ℕ
  pub bytes : List ℕ

-- what a packet is to a run of parts that it may go on: a part between, the last part, or none
pub data Link : Type 0 where
  Inner : (bytes : List ℕ) → Link
  End : (bytes : List ℕ) → Link
  Break : Link

-- two flags are the same
abbrev pub same_flag : Bool → Bool → Bool
same_flag true b = b
same_flag false b = not b

-- parts of one unit agree in timed flag and MPU number, and are not aggregated (ISO/IEC 23008-1, the fragmentation indicator; that each part has the header is this project's rule)
unfoldable pub media_link : Bool → ℕ → Payload → Link
media_link timed mpu (Payload.Media parts.Middle t m (d ∷ [])) = if same_flag timed t && (mpu == m) then Link.Inner d.bytes else Link.Break
media_link timed mpu (Payload.Media parts.Last t m (d ∷ [])) = if same_flag timed t && (mpu == m) then Link.End d.bytes else Link.Break
media_link timed mpu _ = Link.Break

-- parts of one message (ISO/IEC 23008-1, the fragmentation indicator of a signalling payload)
unfoldable pub signal_link : Payload → Link
signal_link (Payload.Signalling parts.Middle (b ∷ [])) = Link.Inner b
signal_link (Payload.Signalling parts.Last (b ∷ [])) = Link.End b
signal_link _ = Link.Break

-- the packet number after this one, modulo 2^32 (ISO/IEC 23008-1, the packet sequence number)
unfoldable pub next_number : ℕ → ℕ
next_number number = (number + 1) % 2 ^ 32

-- the first of these packets with this packet id and number
unfoldable pub packet_at : List Heard → ℕ → ℕ → Option Heard
packet_at [] packet_id number = None
packet_at (p ∷ ps) packet_id number = if (p.packet_id == packet_id) && (p.number == number) then Some p else packet_at ps packet_id number

-- what the packet is to a run, where it is there
unfoldable pub link_at : (Payload → Link) → Option Heard → Link
link_at link None = Link.Break
link_at link (Some p) = link p.payload

-- a part in front of the rest of a run
unfoldable pub after_link : Link → Option (List (List ℕ)) → Option (List (List ℕ))
after_link (Link.Inner bytes) None = None
after_link (Link.Inner bytes) (Some rest) = Some (bytes ∷ rest)
after_link (Link.End bytes) rest = Some (bytes ∷ [])
after_link Link.Break rest = None

-- the parts of the packets from this number on, up to a last part, without a gap; they are at most `most`
unfoldable pub rest_of_run : (Payload → Link) → List Heard → ℕ → ℕ → ℕ → Option (List (List ℕ))
rest_of_run link kept packet_id zero number = None
rest_of_run link kept packet_id (suc most) number = after_link (link_at link (packet_at kept packet_id number)) (rest_of_run link kept packet_id most (next_number number))

-- byte lists one after another
abbrev pub joined : List (List ℕ) → List ℕ
joined [] = []
joined (b ∷ bs) = b ++ joined bs

-- the media unit with the header of this data unit of a packet, and these bytes
unfoldable pub unit_from : Heard → ℕ → ℕ → DataUnit → List ℕ → MediaUnit
unit_from p mpu place d bytes =
    record { packet_id = p.packet_id; mpu = mpu; key = d.key; priority = d.priority; dependency = d.dependency; number = p.number; place = place; bytes = bytes }

-- the data units of a payload with part `Whole` are media units, from this place on
unfoldable pub whole_units : Heard → ℕ → ℕ → List DataUnit → List MediaUnit
whole_units p mpu place [] = []
whole_units p mpu place (d ∷ ds) = unit_from p mpu place d d.bytes ∷ whole_units p mpu (place + 1) ds

-- the media unit of a first part and the rest of its run
unfoldable pub joined_unit : Heard → ℕ → DataUnit → Option (List (List ℕ)) → List MediaUnit
joined_unit p mpu d None = []
joined_unit p mpu d (Some rest) = unit_from p mpu 0 d (joined (d.bytes ∷ rest)) ∷ []

-- the media units that begin in this packet
unfoldable pub units_by : List Heard → Heard → Payload → List MediaUnit
units_by kept p (Payload.Media parts.Whole timed mpu data_units) = whole_units p mpu 0 data_units
units_by kept p (Payload.Media parts.First timed mpu (d ∷ [])) = joined_unit p mpu d (rest_of_run (media_link timed mpu) kept p.packet_id (length kept) (next_number p.number))
units_by kept p _ = []

-- the media units of kept packets (ISO/IEC 23008-1, the MPU payload; the consecutive numbers are this project's rule)
unfoldable pub units_of : List Heard → List MediaUnit
units_of kept = flat_map (λ p. units_by kept p p.payload) kept

-- a message in parts: the number of its first packet, how many packets it has, and its bytes
pub record Message : Type 0 where
  pub number : ℕ
  pub count : ℕ
  pub bytes : List ℕ

-- the message of a first part and the rest of its run
unfoldable pub message : Heard → List ℕ → Option (List (List ℕ)) → List Message
message p first None = []
message p first (Some rest) = record { number = p.number; count = suc (length rest); bytes = joined (first ∷ rest) } ∷ []

-- the message in parts that begins in this packet
unfoldable pub message_by : List Heard → Heard → Payload → List Message
message_by kept p (Payload.Signalling parts.First (first ∷ [])) = message p first (rest_of_run signal_link kept p.packet_id (length kept) (next_number p.number))
message_by kept p _ = []

-- a packet is a part of a message, which has at most 131,072 bytes (this project's limit)
unfoldable pub is_part_of : Heard → Message → Bool
is_part_of h m = nat_lt (ahead_of h.number m.number) m.count && nat_le (length m.bytes) 131072

-- the bytes of the message that a packet is a part of, where it is whole
unfoldable pub part_messages : List Heard → Heard → List (List ℕ)
part_messages kept h = map (λ m. m.bytes) (filter (is_part_of h) (flat_map (λ p. if p.packet_id == h.packet_id then message_by kept p p.payload else []) kept))

-- the messages of a stored packet: those of its payload, or the one that it is a part of (ISO/IEC 23008-1, the signalling payload)
unfoldable pub messages_by : List Heard → Heard → Payload → List (List ℕ)
messages_by kept h (Payload.Signalling parts.Whole messages) = messages
messages_by kept h (Payload.Signalling parts.First parts) = part_messages kept h
messages_by kept h (Payload.Signalling parts.Middle parts) = part_messages kept h
messages_by kept h (Payload.Signalling parts.Last parts) = part_messages kept h
messages_by kept h (Payload.Media part timed mpu data_units) = []
messages_by kept h Payload.Other = []

-- the names in the messages of a stored packet, where `names_in` gives those of the tables in a message (ARIB STD-B60, the MPT in a PA message)
unfoldable pub names_of : (List ℕ → List Entry) → List Heard → Heard → List Entry
names_of names_in kept h = flat_map names_in (messages_by kept h h.payload)
