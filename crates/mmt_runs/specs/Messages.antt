-- The messages in parts that a kept packet is a part of.
use Rattle.std.specs.Prelude.{ℕ, nat_lt, nat_le, Bool, ◌==◌, List, [], length, map, if◌then◌else◌}
use Rattle.std.specs.List.{filter, flat_map}
use Rattle.mmt_base.specs.Ticks.{ahead_of}
use Rattle.mmt_model.specs.Packets.{Heard}
use Rattle.mmt_model.specs.Units.{Message, message_by, joined}

-- the messages in parts of the packets with this packet id
unfoldable pub messages_on : List Heard → ℕ → List Message
messages_on kept packet_id = flat_map (λ p. if p.packet_id == packet_id then message_by kept p p.payload else []) kept

-- the packet with this number is one of the message's, which follow one another modulo 2^32 (ISO/IEC 23008-1, the packet sequence number)
abbrev pub is_part : ℕ → Message → Bool
is_part number m = nat_lt (ahead_of number m.number) m.count

-- the messages in parts, of the packets with this packet id, that the packet with this number is a part of, of any length (ISO/IEC 23008-1, the fragmentation indicator of a signalling payload)
unfoldable pub messages_with : List Heard → ℕ → ℕ → List Message
messages_with kept packet_id number = filter (is_part number) (messages_on kept packet_id)

-- a message has at most 131,072 bytes (this project's limit)
abbrev pub is_short : Message → Bool
is_short m = nat_le (length m.bytes) 131072

-- the bytes of those of the messages that have at most 131,072 bytes (this project's limit)
abbrev pub short_bytes : List Message → List (List ℕ)
short_bytes ms = map (λ m. m.bytes) (filter is_short ms)

-- a message in parts of which some may have been lent: the number of its first packet, and the parts that are left
pub record PartsLeft : Type 0 where
  pub number : ℕ
  pub left : List (List ℕ)

-- the message of parts of which none was lent
abbrev pub message_of : PartsLeft → Message
message_of p = record { number = p.number; count = length p.left; bytes = joined p.left }
