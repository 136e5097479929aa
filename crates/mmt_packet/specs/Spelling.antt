-- What an MMTP packet is, and the bytes that it is spelled by (ISO/IEC 23008-1, the MMTP packet header).
use Rattle.std.specs.Prelude.{◌≡◌, ℕ, ◌+◌, ◌*◌, ◌/◌, ◌%◌, ◌^◌, ◌<◌, Bool, false, ◌&&◌, not, ◌==◌, nat_le, List, ◌++◌, length, slice_index, Option, Some, None, IfSome}
use Rattle.std.specs.Option.{is_some}
use Rattle.std.specs.Int.{w8, w16, w32, from_bool}
use Rattle.mmt_fields.specs.Reading.{big_endian, optional}
use Rattle.mmt_packet.specs.declared.packet.Kind.{Kind}
use Rattle.mmt_packet.specs.declared.packet.Kind.TheVariants as kinds
use Rattle.mmt_packet.specs.declared.packet.Extension.{Extension}
use Rattle.mmt_packet.specs.declared.packet.Packet.{Packet}

-- a header extension: its type and its bytes (ISO/IEC 23008-1, the MMTP packet header)
pub record Ext : Type 0 where
  pub kind : ℕ
  pub bytes : List ℕ

-- the values of a packet's fields, reserved bits included (ISO/IEC 23008-1, the MMTP packet header)
pub record Value : Type 0 where
  pub counter : Option ℕ
  pub rap : Bool
  pub reserved : ℕ
  pub kind : Kind
  pub packet_id : ℕ
  pub time : ℕ
  pub number : ℕ
  pub extension : Option Ext
  pub payload : List ℕ

-- the type field of a kind (ISO/IEC 23008-1, the MMTP packet header, type)
abbrev pub code_of : Kind → ℕ
code_of kinds.Mpu = 0
code_of kinds.Generic = 1
code_of kinds.Signalling = 2

-- the first byte: version 0 in two bits, whether there is a counter, FEC type 0 in two bits, the first reserved bit, whether there is an
-- extension, and whether it is a random access point
abbrev pub first_byte : Value → ℕ
first_byte v = 32 * from_bool (is_some v.counter) + 4 * (v.reserved / 4) + 2 * from_bool (is_some v.extension) + from_bool v.rap

-- the second byte: the two other reserved bits, and the type in six bits
abbrev pub second_byte : Value → ℕ
second_byte v = 64 * (v.reserved % 4) + code_of v.kind

-- the extension's type, the count of its bytes, and the bytes
unfoldable pub extension : Ext → List ℕ
extension e = big_endian w16 e.kind ++ (big_endian w16 (length e.bytes) ++ e.bytes)

-- how many bytes an extension takes
abbrev pub extension_length : Option Ext → ℕ
extension_length None = 0
extension_length (Some e) = 4 + length e.bytes

-- how many bytes stand before the payload
abbrev pub head_length : Value → ℕ
head_length v = 12 + 4 * from_bool (is_some v.counter) + extension_length v.extension

-- the bytes of a packet: each field in its width, in the order of the header, and then the payload
unfoldable pub spelling : Value → List ℕ
spelling v = big_endian w8 (first_byte v) ++ (big_endian w8 (second_byte v) ++ (big_endian w16 v.packet_id ++ (big_endian w32 v.time ++ (big_endian w32 v.number ++ (optional (big_endian w32) v.counter ++ (optional extension v.extension ++ v.payload))))))

-- the 16-bit number at a place
abbrev pub two_bytes : List ℕ → ℕ → ℕ
two_bytes bytes i = slice_index bytes i * 256 + slice_index bytes (i + 1)

-- whether an extension says that the payload is scrambled: type 0, at least five bytes, the low 15 bits of the first two
-- are 1, the next two are a length of at least 1, and the fifth has a bit of 0x18 set (ARIB STD-B60, the header
-- extension that controls scrambling)
unfoldable pub is_scrambled : Ext → Bool
is_scrambled e = (e.kind == 0) && (nat_le 5 (length e.bytes) && ((two_bytes e.bytes 0 % 2 ^ 15 == 1) && (nat_le 1 (two_bytes e.bytes 2) && not (slice_index e.bytes 4 / 8 % 4 == 0))))

-- an extension that has a spelling: its fields are in the range of their widths, and it is not scrambled
pub record ExtFits (e : Ext) : Type 0 where
  pub kind : e.kind < 2 ^ 16
  pub len : length e.bytes < 2 ^ 16
  pub clear : is_scrambled e ≡ false

-- what a writer asks beside the ranges of the packet's types
pub record CanSpell (v : Value) : Type 0 where
  pub reserved : v.reserved < 8
  pub extension : IfSome v.extension (λ e. (length e.bytes < 2 ^ 16) × (is_scrambled e ≡ false))

-- a packet that has a spelling: its fields are in the range of their widths, and its extension fits
pub record Fits (v : Value) : Type 0 where
  pub counter : IfSome v.counter (λ n. n < 2 ^ 32)
  pub reserved : v.reserved < 8
  pub packet_id : v.packet_id < 2 ^ 16
  pub time : v.time < 2 ^ 32
  pub number : v.number < 2 ^ 32
  pub extension : IfSome v.extension ExtFits

-- an extension of the program as a value
abbrev pub view_extension : Extension → Ext
view_extension e = record { kind = e.kind; bytes = e.bytes.now }

-- the same where there may be none
abbrev pub view_option : Option Extension → Option Ext
view_option None = None
view_option (Some e) = Some (view_extension e)

-- a packet of the program as a value
abbrev pub view : Packet → Value
view p = record { counter = p.counter; rap = p.rap; reserved = p.reserved; kind = p.kind; packet_id = p.packet_id; time = p.time.0; number = p.number; extension = view_option p.extension; payload = p.payload.now }
