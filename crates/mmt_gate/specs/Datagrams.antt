-- The datagrams that a stream of TLV packets carries (ARIB STD-B32 Part 3, RFC 8200, RFC 768). Earlier packets stand with the newest first.
use Rattle.std.specs.Prelude.{ℕ, ◌==◌, List, [], ◌∷◌, Option, Some, None, Result, Ok, Err, if◌then◌else◌}
use Rattle.std.specs.List.{cons_option}
use Rattle.mmt_base.specs.declared.refused.Refused.{Refused}
use Rattle.mmt_tlv.specs.Framing.{Packet}
use Rattle.mmt_ip.specs.declared.packet.Ip6Header.{Ip6Header}
use Rattle.mmt_ip.specs.declared.packet.IpWhy.{IpWhy}
use Rattle.mmt_ip.specs.Spelling.{Value as Plain}
use Rattle.mmt_ip.specs.Reading.{packet_of as plain_of}
use Rattle.mmt_ctx.specs.declared.packet.CtxWhy.{CtxWhy}
use Rattle.mmt_ctx.specs.Headers.{Header as Opened, opened_after}
use Rattle.mmt_hear.specs.Hearing.{compressed_bodies}

-- the IPv6 and UDP headers, without lengths and checksum, and the UDP payload
pub record Datagram : Type 0 where
  pub header : Ip6Header
  pub payload : List ℕ

-- that of an IPv6 packet, whether or not it has a checksum
abbrev pub in_plain : Result Plain (Refused IpWhy) → Option Datagram
in_plain (Ok v) = Some (record { header = v.header; payload = v.payload })
in_plain (Err e) = None

-- that of a header-compressed packet with the header that it has
abbrev pub in_opened : Result Opened (Refused CtxWhy) → Option Datagram
in_opened (Ok v) = Some (record { header = v.header; payload = v.payload })
in_opened (Err e) = None

-- the datagram of a packet after the earlier ones: a packet of type 2 that spells an IPv6 and UDP packet has one, and so has a
-- packet of type 3 that carries a header or for whose context an earlier packet carried one; no other packet has one
unfoldable pub datagram_of : List Packet → Packet → Option Datagram
datagram_of earlier packet =
    if packet.kind == 2 then in_plain (plain_of packet.body)
    else (if packet.kind == 3 then in_opened (opened_after (compressed_bodies earlier) packet.body)
    else None)

-- the datagrams of the packets of a stream after earlier ones, in order
unfoldable pub datagrams_after : List Packet → List Packet → List Datagram
datagrams_after earlier [] = []
datagrams_after earlier (packet ∷ packets) = cons_option (datagram_of earlier packet) (datagrams_after (packet ∷ earlier) packets)

-- the datagrams of a stream, in order
abbrev pub datagrams : List Packet → List Datagram
datagrams packets = datagrams_after [] packets
