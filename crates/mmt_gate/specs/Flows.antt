-- The flows of a stream: the headers of its plain packets, and which of them have a context (ARIB STD-B32 Part 3, RFC 8200, RFC 768).
-- Earlier packets and headers stand with the newest first.
use Rattle.std.specs.Prelude.{ℕ, ◌-◌, Bool, ◌&&◌, ◌==◌, List, [], ◌∷◌, ◌++◌, take, Option, Some, None, Result, Ok, Err, if◌then◌else◌}
use Rattle.std.specs.List.{list_any, position, filter_map}
use Rattle.mmt_base.specs.declared.refused.Refused.{Refused}
use Rattle.mmt_tlv.specs.Framing.{Packet}
use Rattle.mmt_ip.specs.declared.packet.Ip6Header.{Ip6Header}
use Rattle.mmt_ip.specs.declared.packet.IpWhy.{IpWhy}
use Rattle.mmt_ip.specs.Spelling.{Value as Plain}
use Rattle.mmt_ip.specs.Reading.{packet_of as plain_of}

-- how a stream is squeezed: the context of the first header, and every how many packets of a header carry it
pub record Options : Type 0 where
  pub context : ℕ
  pub full_every : ℕ

-- all fields of both headers agree
unfoldable pub same : Ip6Header → Ip6Header → Bool
same h g = (h.traffic_class == g.traffic_class) && ((h.flow_label == g.flow_label) && ((h.hop_limit == g.hop_limit)
    && ((h.source == g.source) && ((h.destination == g.destination)
    && ((h.source_port == g.source_port) && (h.destination_port == g.destination_port))))))

abbrev pub header_read : Result Plain (Refused IpWhy) → Option Ip6Header
header_read (Ok v) = Some v.header
header_read (Err e) = None

-- the header of a packet of type 2 that spells an IPv6 and UDP packet
unfoldable pub header_of : Packet → Option Ip6Header
header_of packet = if packet.kind == 2 then header_read (plain_of packet.body) else None

-- the headers of the plain packets among these
unfoldable pub headers : List Packet → List Ip6Header
headers packets = filter_map header_of packets

-- the headers without repeats, in the order in which each was first seen
unfoldable pub distinct : List Ip6Header → List Ip6Header
distinct [] = []
distinct (h ∷ older) = if list_any (same h) (distinct older) then distinct older else distinct older ++ h ∷ []

-- the headers that have a context: the first ones, as many as there are contexts from the first one to 4,095
abbrev pub with_context : Options → List Ip6Header → List Ip6Header
with_context s hs = take (4096 - s.context) (distinct hs)

-- the place of a header among those that have a context, where it is one of them
abbrev pub place_among : Ip6Header → List Ip6Header → Option ℕ
place_among h known = position (same h) known
