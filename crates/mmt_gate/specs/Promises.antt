-- What a gateway keeps of a stream: its datagrams.
use Rattle.std.specs.Prelude.{◌≡◌, ◌<◌, ◌==◌, Bool, nat_le, List, length, filter, All}
use Rattle.mmt_tlv.specs.Framing.{Packet, Fits}
use Rattle.mmt_gate.specs.Datagrams.{Datagram, datagrams}
use Rattle.mmt_gate.specs.Expanding.{expansion, longest}
use Rattle.mmt_gate.specs.Flows.{Options}
use Rattle.mmt_gate.specs.Shrinking.{squeezing}

-- a whole TLV packet of bytes
pub record IsWhole (packet : Packet) : Type 0 where
  pub fits : Fits packet
  pub bytes : All (λ byte. byte < 256) packet.body

-- the payload fits a plain packet
abbrev pub is_short : Datagram → Bool
is_short d = nat_le (length d.payload) longest

-- The datagrams of an expanded stream are those of the stream that fit a plain packet, in order.
abbrev pub ExpandingKeepsDatagrams : Type 0
ExpandingKeepsDatagrams = (packets : List Packet) → All IsWhole packets
    → datagrams (expansion packets) ≡ filter is_short (datagrams packets)

-- an IPv6 packet (ARIB STD-B32 Part 3: packet type 2)
abbrev pub is_plain : Packet → Bool
is_plain packet = packet.kind == 2

-- The datagrams of a squeezed stream are those of the stream's packets of type 2, in order, whatever the options are.
abbrev pub SqueezingKeepsDatagrams : Type 0
SqueezingKeepsDatagrams = (s : Options) (packets : List Packet) → All IsWhole packets
    → datagrams (squeezing s packets) ≡ datagrams (filter is_plain packets)
