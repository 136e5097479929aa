-- Which TLV packets are heard, and as what (ARIB STD-B32 Part 3, RFC 8200, RFC 768).
use Rattle.std.specs.Prelude.{ℕ, ◌+◌, Bool, true, false, not, ◌&&◌, ◌==◌, List, [], ◌∷◌, map, Result, Ok, Err, if◌then◌else◌}
use Rattle.std.specs.List.{filter}
use Rattle.mmt_base.specs.declared.refused.Refused.{Refused}
use Rattle.mmt_model.specs.declared.programmes.FlowChoice.{FlowChoice}
use Rattle.mmt_model.specs.declared.programmes.FlowChoice.TheVariants as choice
use Rattle.mmt_tlv.specs.Framing.{Packet}
use Rattle.mmt_ip.specs.declared.packet.Ip6Header.{Ip6Header}
use Rattle.mmt_ip.specs.declared.packet.IpWhy.{IpWhy}
use Rattle.mmt_ip.specs.declared.packet.IpWhy.TheVariants as ip
use Rattle.mmt_ip.specs.Spelling.{Value as Datagram}
use Rattle.mmt_ip.specs.Reading.{packet_of as datagram_of}
use Rattle.mmt_ctx.specs.declared.packet.CtxWhy.{CtxWhy}
use Rattle.mmt_ctx.specs.declared.packet.CtxWhy.TheVariants as ctx
use Rattle.mmt_ctx.specs.Headers.{Header, opened_after}
use Rattle.mmt_packet.specs.declared.packet.PacketWhy.{PacketWhy}
use Rattle.mmt_packet.specs.declared.packet.PacketWhy.TheVariants as mmtp
use Rattle.mmt_packet.specs.Spelling.{Value as Mmtp}
use Rattle.mmt_packet.specs.Reading.{packet_of as mmtp_of}
use Rattle.mmt_hear.specs.declared.why.Why.{Why}
use Rattle.mmt_hear.specs.declared.why.Why.TheVariants as why

-- a TLV packet is heard as an MMTP packet, with its place in the TLV packet; or it is none of ours; or it is refused, at a place in the TLV packet
pub data Hearing : Type 0 where
  Heard : (packet : Mmtp) (from : ℕ) → Hearing
  NotOurs : Hearing
  Refusal : (at : ℕ) (reason : Why) → Hearing

-- the choice takes the destination
abbrev pub is_chosen : FlowChoice → Ip6Header → Bool
is_chosen choice.Any h = true
is_chosen (choice.One flow) h = (h.destination == flow.address) && (h.destination_port == flow.port)

-- a flow is ours where the choice takes it and its port is not 123, that of NTP (RFC 5905), whatever the choice
abbrev pub is_ours : FlowChoice → Ip6Header → Bool
is_ours flow h = not (h.destination_port == 123) && is_chosen flow h

-- the refusals of each layer as those of hearing
abbrev pub ip_reason : IpWhy → Why
ip_reason ip.Short = why.IpShort
ip_reason (ip.Version n) = why.IpVersion n
ip_reason (ip.NextHeader n) = why.IpNext n
ip_reason ip.Length = why.IpLength
ip_reason ip.Checksum = why.IpChecksum

abbrev pub ctx_reason : CtxWhy → Why
ctx_reason ctx.Short = why.CtxShort
ctx_reason (ctx.OtherKind n) = why.CtxKind n
ctx_reason (ctx.Version n) = why.IpVersion n
ctx_reason (ctx.NextHeader n) = why.IpNext n
ctx_reason (ctx.NoContext n) = why.CtxNone n

abbrev pub mmtp_reason : PacketWhy → Why
mmtp_reason mmtp.Short = why.MmtpShort
mmtp_reason (mmtp.Version n) = why.MmtpVersion n
mmtp_reason (mmtp.Fec n) = why.MmtpFec n
mmtp_reason (mmtp.Kind n) = why.MmtpKind n
mmtp_reason mmtp.Scrambled = why.Scrambled

-- the UDP payload at a place, read as an MMTP packet
abbrev pub heard_payload : ℕ → Result Mmtp (Refused PacketWhy) → Hearing
heard_payload from (Ok p) = Hearing.Heard p from
heard_payload from (Err e) = Hearing.Refusal (from + e.at) (mmtp_reason e.why)

-- a flow's UDP payload is read only where the flow is ours
abbrev pub heard_flow : Bool → ℕ → List ℕ → Hearing
heard_flow true from payload = heard_payload from (mmtp_of payload)
heard_flow false from payload = Hearing.NotOurs

-- the IPv6 packet begins at byte 4 of the TLV packet, and its UDP payload at byte 52
abbrev pub heard_datagram : FlowChoice → Result Datagram (Refused IpWhy) → Hearing
heard_datagram flow (Ok d) = heard_flow (is_ours flow d.header) 52 d.payload
heard_datagram flow (Err e) = Hearing.Refusal (4 + e.at) (ip_reason e.why)

-- the UDP payload of a compressed packet begins at byte 49 with a header, and at byte 7 without one
abbrev pub payload_place : Bool → ℕ
payload_place true = 49
payload_place false = 7

abbrev pub heard_compressed : FlowChoice → Result Header (Refused CtxWhy) → Hearing
heard_compressed flow (Ok h) = heard_flow (is_ours flow h.header) (payload_place h.full) h.payload
heard_compressed flow (Err e) = Hearing.Refusal (4 + e.at) (ctx_reason e.why)

abbrev pub is_compressed : Packet → Bool
is_compressed packet = packet.kind == 3

-- the bodies of the header-compressed packets among these
abbrev pub compressed_bodies : List Packet → List (List ℕ)
compressed_bodies packets = map (λ p. p.body) (filter is_compressed packets)

-- what a TLV packet is heard as after the earlier ones, the newest of them first: IPv6 by itself, header-compressed IP with
-- the header that looking back finds, null packets and control signals as none of ours, and other types as refused
unfoldable pub hearing : FlowChoice → List Packet → Packet → Hearing
hearing flow earlier packet =
    if packet.kind == 1 then Hearing.Refusal 1 why.Ip4
    else (if packet.kind == 2 then heard_datagram flow (datagram_of packet.body)
    else (if packet.kind == 3 then heard_compressed flow (opened_after (compressed_bodies earlier) packet.body)
    else (if packet.kind == 254 then Hearing.NotOurs
    else (if packet.kind == 255 then Hearing.NotOurs
    else Hearing.Refusal 1 (why.TlvKind packet.kind)))))

-- what the packets of a stream are heard as, after earlier ones of which the newest is the first
unfoldable pub hearings_after : FlowChoice → List Packet → List Packet → List Hearing
hearings_after flow earlier [] = []
hearings_after flow earlier (packet ∷ packets) = hearing flow earlier packet ∷ hearings_after flow (packet ∷ earlier) packets

-- what the packets of a stream are heard as, in their order
abbrev pub hearings : FlowChoice → List Packet → List Hearing
hearings flow packets = hearings_after flow [] packets
