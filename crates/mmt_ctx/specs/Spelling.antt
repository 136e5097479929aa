-- What a header-compressed IP packet is, and its one spelling (ARIB STD-B32 Part 3, header-compressed IP packet).
use Rattle.std.specs.Prelude.{ℕ, ◌+◌, ◌*◌, ◌<◌, Bool, true, false, List, ◌++◌, Option, Some, None, IfSome}
use Rattle.std.specs.Int.{w8, w16, w32, w128}
use Rattle.mmt_fields.specs.Reading.{big_endian, optional}
use Rattle.mmt_ip.specs.declared.packet.Ip6Header.{Ip6Header}
use Rattle.mmt_ip.specs.Spelling.{HeaderFits, first_word}

-- the context, the sequence number, the header where one is carried, and the UDP payload
pub record Value : Type 0 where
  pub context : ℕ
  pub number : ℕ
  pub header : Option Ip6Header
  pub payload : List ℕ

-- header type 0x60 carries the IPv6 and UDP headers without lengths and checksum, 0x61 carries none
abbrev pub header_type : Option Ip6Header → ℕ
header_type (Some h) = 96
header_type None = 97

-- the 42 bytes of a header: version, traffic class and flow label, next header, hop limit, the two addresses, the two ports
unfoldable pub full_header : Ip6Header → List ℕ
full_header h = big_endian w32 (first_word h) ++ (big_endian w8 17 ++ (big_endian w8 h.hop_limit ++ (big_endian w128 h.source ++ (big_endian w128 h.destination
    ++ (big_endian w16 h.source_port ++ big_endian w16 h.destination_port)))))

-- context id in twelve bits, sequence number in four, header type in eight, the header where one is carried, the payload
unfoldable pub spelling : Value → List ℕ
spelling v = big_endian w16 (16 * v.context + v.number) ++ (big_endian w8 (header_type v.header) ++ (optional full_header v.header ++ v.payload))

-- what has a spelling
pub record Fits (v : Value) : Type 0 where
  pub context : v.context < 4096
  pub number : v.number < 16
  pub header : IfSome v.header HeaderFits

-- how many bytes stand before the payload, with a header and without one (ARIB STD-B32 Part 3, header-compressed IP packet)
abbrev pub head_length : Bool → ℕ
head_length true = 45
head_length false = 3
