-- The signalling payload (ISO/IEC 23008-1, the header of the signalling message mode), and its one spelling.
use Rattle.std.specs.Prelude.{◌≡◌, ℕ, ◌+◌, ◌*◌, ◌^◌, ◌<◌, Bool, true, false, List, ◌++◌, length}
use Rattle.std.specs.List.{flat_map, All}
use Rattle.std.specs.Int.{Width, w8, w16, w32, from_bool}
use Rattle.mmt_fields.specs.Reading.{big_endian}
use Rattle.mmt_model.specs.Parts.{part_number, IsWholeIf}
use Rattle.mmt_sig.specs.declared.head.SigHead.{SigHead}

-- a payload: its header, and its messages or the one part of a message (ISO/IEC 23008-1)
pub record Payload : Type 0 where
  pub head : SigHead
  pub messages : List (List ℕ)

-- the first byte: f_i in two bits, four reserved bits, the long length flag H and the aggregation flag A (ISO/IEC 23008-1)
abbrev pub flags : SigHead → ℕ
flags h = 64 * part_number h.part + 4 * h.reserved + 2 * from_bool h.long + from_bool h.aggregated

-- the width of a message's length: 32 bits where H is 1, and else 16 (ISO/IEC 23008-1)
abbrev pub length_width : Bool → Width
length_width true = w32
length_width false = w16

-- the number that a message's length is below
abbrev pub length_limit : Bool → ℕ
length_limit true = 2 ^ 32
length_limit false = 2 ^ 16

-- one of several messages, after its length in bytes (ISO/IEC 23008-1)
unfoldable pub message_bytes : Bool → List ℕ → List ℕ
message_bytes long m = big_endian (length_width long) (length m) ++ m

-- the bytes themselves
abbrev pub itself : List ℕ → List ℕ
itself bytes = bytes

-- messages after their lengths where A is 1, and else the one message alone (ISO/IEC 23008-1)
unfoldable pub messages_bytes : Bool → Bool → List (List ℕ) → List ℕ
messages_bytes true long ms = flat_map (message_bytes long) ms
messages_bytes false long ms = flat_map itself ms

-- the payload's bytes: the flags, the fragment counter and the messages (ISO/IEC 23008-1)
unfoldable pub spelling : Payload → List ℕ
spelling v = big_endian w8 (flags v.head) ++ (big_endian w8 v.head.counter ++ messages_bytes v.head.aggregated v.head.long v.messages)

-- ---- what has a spelling

-- a message is short enough for its length field
abbrev pub MessageFits : Bool → List ℕ → Type 0
MessageFits long m = length m < length_limit long

-- any number of messages that fit, or exactly one
abbrev pub MessagesFit : Bool → Bool → List (List ℕ) → Type 0
MessagesFit true long ms = All (MessageFits long) ms
MessagesFit false long ms = length ms ≡ 1

-- the payloads that have a spelling: each field fits its bits
pub record Fits (v : Payload) : Type 0 where
  pub part : IsWholeIf v.head.aggregated v.head.part
  pub reserved : v.head.reserved < 16
  pub counter : v.head.counter < 2 ^ 8
  pub messages : MessagesFit v.head.aggregated v.head.long v.messages
