-- The small texts that a line is made of, which are this project's own. A text is its bytes.
use Rattle.std.specs.Prelude.{ℕ, ◌/◌, ◌%◌, Bool, true, false, List, [], ◌∷◌, ◌++◌, length, codes, decimal, ◌==◌, if◌then◌else◌}
use Rattle.std.specs.List.{flat_map}
use Rattle.std.specs.Fmt.{digit_glyph}
use Rattle.std.specs.Int.{w128, from_bool}
use Rattle.mmt_fields.specs.Reading.{big_endian}
use Rattle.mmt_ip.specs.declared.packet.Ip6Header.{Ip6Header}
use Rattle.mmt_ctx.specs.Headers.{Header}
use Rattle.mmt_packet.specs.Spelling.{Value as Mmtp, code_of}
use Rattle.mmt_model.specs.declared.keys.UnitKey.{UnitKey}
use Rattle.mmt_model.specs.declared.keys.UnitKey.TheVariants.{Timed, Item}
use Rattle.mmt_model.specs.Parts.{part_number}
use Rattle.mmt_mpu.specs.Spelling.{UnitValue, Value as Mpu}

-- the two hexadecimal digits of a byte, the high one first
abbrev pub hex_byte : ℕ → List ℕ
hex_byte byte = digit_glyph false (byte / 16) ∷ digit_glyph false (byte % 16) ∷ []

-- the name of a packet's kind (ARIB STD-B32 Part 3, TLV packet, packet_type); another kind by its two hexadecimal digits
unfoldable pub kind_word : ℕ → List ℕ
kind_word kind = if kind == 1 then codes "ip4" else if kind == 2 then codes "ip6" else if kind == 3 then codes "ctx"
    else if kind == 254 then codes "signal" else if kind == 255 then codes "null"
    else codes "other-" ++ hex_byte kind

-- a place, a kind and the length of the body, with blanks between them
unfoldable pub head_text : ℕ → ℕ → ℕ → List ℕ
head_text place kind size = decimal place ++ codes " " ++ kind_word kind ++ codes " " ++ decimal size

-- an address by the 32 hexadecimal digits of its 16 bytes
unfoldable pub address_text : ℕ → List ℕ
address_text address = flat_map hex_byte (big_endian w128 address)

-- an address and a port
unfoldable pub end_text : ℕ → ℕ → List ℕ
end_text address port = address_text address ++ codes ":" ++ decimal port

-- the source and the destination (RFC 8200, section 3; RFC 768)
unfoldable pub ends_text : Ip6Header → List ℕ
ends_text h = end_text h.source h.source_port ++ codes " " ++ end_text h.destination h.destination_port

-- what a packet that carries its header shows more, and one that does not
unfoldable pub header_text : Bool → Ip6Header → List ℕ
header_text true h = codes " full " ++ ends_text h
header_text false h = codes " short"

-- a header-compressed packet: its context, its sequence number, and the header that it carries (ARIB STD-B32 Part 3)
unfoldable pub ctx_text : Header → List ℕ
ctx_text h = codes " | cid " ++ decimal h.context ++ codes " seq " ++ decimal h.number ++ header_text h.full h.header

-- an MMTP packet: the fields of its header, and the length of its payload in bytes (ISO/IEC 23008-1, the MMTP packet header)
unfoldable pub mmtp_text : Mmtp → List ℕ
mmtp_text p = codes " | mmtp id " ++ decimal p.packet_id ++ codes " type " ++ decimal (code_of p.kind) ++ codes " time " ++ decimal p.time
    ++ codes " number " ++ decimal p.number ++ codes " rap " ++ decimal (from_bool p.rap) ++ codes " payload " ++ decimal (length p.payload)

-- an MPU payload: its MPU, whether it is timed, which part it carries, and how many units (ISO/IEC 23008-1, MPU mode)
unfoldable pub mpu_text : Mpu → List ℕ
mpu_text v = codes " | mpu " ++ decimal v.head.mpu ++ codes " timed " ++ decimal (from_bool v.head.timed) ++ codes " part " ++ decimal (part_number v.head.part)
    ++ codes " units " ++ decimal (length v.units)

-- the numbers of a unit's key: movie fragment, sample and offset of timed media, or the item
unfoldable pub key_text : UnitKey → List ℕ
key_text (Timed movie_fragment sample offset) = codes " [" ++ decimal movie_fragment ++ codes " " ++ decimal sample ++ codes " " ++ decimal offset
key_text (Item item) = codes " [" ++ decimal item

-- a unit: its key and the length of its bytes
unfoldable pub unit_text : UnitValue → List ℕ
unit_text u = key_text u.head.key ++ codes " " ++ decimal (length u.bytes) ++ codes "]"

-- the units, one after the other
abbrev pub units_text : List UnitValue → List ℕ
units_text units = flat_map unit_text units
