-- The packets of a cast, as MMTP packets and as TLV packets.
use Rattle.std.specs.Prelude.{ℕ, ◌%◌, true, ◌==◌, List, None, get_or, if◌then◌else◌}
use Rattle.mmt_base.specs.Ticks.{low}
use Rattle.mmt_model.specs.Carrying.{Contents}
use Rattle.mmt_model.specs.Survival.{no_packet}
use Rattle.mmt_model.specs.declared.casts.Cast.{Cast}
use Rattle.mmt_tlv.specs.Framing.{Packet as Tlv}
use Rattle.mmt_ip.specs.declared.packet.Ip6Header.{Ip6Header}
use Rattle.mmt_ip.specs.Spelling.{spelling as datagram_spelling}
use Rattle.mmt_ctx.specs.Spelling.{spelling as compressed_spelling}
use Rattle.mmt_ctx.specs.Squeezing.{Squeezing, packet_at}
use Rattle.mmt_packet.specs.Spelling.{Value as Mmtp, spelling as packet_spelling}
use Rattle.mmt_sent.specs.Payloads.{Written, bytes_of, kind_of, written}

-- the payload of the packet at a place
abbrev pub written_at : Cast → Contents → ℕ → Written
written_at cast contents n = written cast contents (get_or cast.packets n no_packet).carries

-- the packet at a place as an MMTP packet, without packet counter and extension, and with reserved bits 0 (ISO/IEC 23008-1, the MMTP packet header; this project's rule for what is sent)
unfoldable pub mmtp_at : Cast → Contents → ℕ → Mmtp
mmtp_at cast contents n =
    let p = get_or cast.packets n no_packet in
    record { counter = None; rap = p.rap; reserved = 0; kind = kind_of (written_at cast contents n); packet_id = p.packet_id; time = low p.at.0; number = p.number; extension = None; payload = bytes_of (written_at cast contents n) }

-- how a sender addresses its packets: the headers, the context, and how often a full header goes; with 0 no header is compressed
pub record Addressing : Type 0 where
  pub header : Ip6Header
  pub context : ℕ
  pub full_every : ℕ

-- the squeezer of a call
abbrev pub squeezing : Addressing → ℕ → Squeezing
squeezing a call = record { context = a.context; full_every = a.full_every; header = a.header; number = call % 16; since = call % a.full_every }

-- a UDP payload as a TLV packet, call by call: plain IPv6 with its checksum, or header-compressed (ARIB STD-B32 Part 3)
unfoldable pub addressed : Addressing → ℕ → List ℕ → Tlv
addressed a call payload =
    if a.full_every == 0
    then record { kind = 2; body = datagram_spelling (record { header = a.header; summed = true; payload = payload }) }
    else record { kind = 3; body = compressed_spelling (packet_at call (squeezing a call) payload) }

-- the packet at a place as a TLV packet
abbrev pub tlv_at : Addressing → Cast → Contents → ℕ → Tlv
tlv_at a cast contents n = addressed a n (packet_spelling (mmtp_at cast contents n))
