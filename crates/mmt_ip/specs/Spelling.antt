-- What an IPv6 packet that carries a UDP datagram is, and the bytes that it is spelled by (RFC 8200, section 3; RFC 768).
use Rattle.std.specs.Prelude.{ℕ, ◌+◌, ◌-◌, ◌*◌, ◌^◌, ◌<◌, Bool, true, false, List, ◌++◌, length}
use Rattle.std.specs.Int.{w8, w16, w32, w128}
use Rattle.mmt_fields.specs.Reading.{big_endian}
use Rattle.mmt_ip.specs.declared.packet.Ip6Header.{Ip6Header}
use Rattle.mmt_ip.specs.declared.packet.Ip6Udp.{Ip6Udp}
use Rattle.mmt_ip.specs.Sum.{ones_sum, written}

-- the values of a packet's fields: both headers, whether there is a checksum, and the payload
pub record Value : Type 0 where
  pub header : Ip6Header
  pub summed : Bool
  pub payload : List ℕ

-- the first four bytes of the IPv6 header (RFC 8200, section 3): version 6 in four bits, the traffic class in eight, the flow label in twenty
abbrev pub first_word : Ip6Header → ℕ
first_word h = 6 * 2 ^ 28 + h.traffic_class * 2 ^ 20 + h.flow_label

-- the UDP length (RFC 768): that of the UDP header and the payload; it is the payload length of the IPv6 header too
abbrev pub udp_length : List ℕ → ℕ
udp_length payload = 8 + length payload

-- what the checksum is taken over (RFC 8200, section 8.1, and RFC 768): the two addresses, the UDP length, the next header, and the datagram without its checksum
unfoldable pub covered : Ip6Header → List ℕ → List ℕ
covered h payload = big_endian w128 h.source ++ (big_endian w128 h.destination ++ (big_endian w32 (udp_length payload) ++ (big_endian w32 17 ++ (big_endian w16 h.source_port ++ (big_endian w16 h.destination_port ++ (big_endian w16 (udp_length payload) ++ (big_endian w16 0 ++ payload)))))))

-- the checksum of the datagram (RFC 768): the complement of the one's complement sum, as it is written
unfoldable pub checksum : Ip6Header → List ℕ → ℕ
checksum h payload = written (65535 - ones_sum (covered h payload))

-- the checksum field: 0 where there is no checksum
abbrev pub sum_of : Bool → Ip6Header → List ℕ → ℕ
sum_of true h payload = checksum h payload
sum_of false h payload = 0

-- the checksum field of a packet
abbrev pub sum_field : Value → ℕ
sum_field v = sum_of v.summed v.header v.payload

-- the bytes of a packet: each field in its width, in the order of the headers, and then the payload
unfoldable pub spelling : Value → List ℕ
spelling v = big_endian w32 (first_word v.header) ++ (big_endian w16 (udp_length v.payload) ++ (big_endian w8 17 ++ (big_endian w8 v.header.hop_limit ++ (big_endian w128 v.header.source ++ (big_endian w128 v.header.destination
    ++ (big_endian w16 v.header.source_port ++ (big_endian w16 v.header.destination_port ++ (big_endian w16 (udp_length v.payload) ++ (big_endian w16 (sum_field v) ++ v.payload)))))))))

-- headers that have a spelling: each field is in the range of its width
pub record HeaderFits (h : Ip6Header) : Type 0 where
  pub traffic_class : h.traffic_class < 2 ^ 8
  pub flow_label : h.flow_label < 2 ^ 20
  pub hop_limit : h.hop_limit < 2 ^ 8
  pub source : h.source < 2 ^ 128
  pub destination : h.destination < 2 ^ 128
  pub source_port : h.source_port < 2 ^ 16
  pub destination_port : h.destination_port < 2 ^ 16

-- a packet that has a spelling: its headers fit, and so does its UDP length
pub record Fits (v : Value) : Type 0 where
  pub header : HeaderFits v.header
  pub len : udp_length v.payload < 2 ^ 16

-- a packet of the program as a value
abbrev pub view : Ip6Udp → Value
view p = record { header = p.header; summed = p.summed; payload = p.payload.now }
