-- The line of a packet, which is this project's own: a head, a section for each layer, and a line feed. A place counts the
-- bytes before it from the start of the stream.
use Rattle.std.specs.Prelude.{ℕ, ◌+◌, List, [], ◌∷◌, ◌++◌, length, take, drop, codes, decimal, Result, Ok, Err, ◌==◌, nat_lt, if◌then◌else◌}
use Rattle.std.specs.Int.{w64, from_be_bytes}
use Rattle.mmt_base.specs.declared.refused.Refused.{Refused}
use Rattle.mmt_tlv.specs.Framing.{Packet, spelling}
use Rattle.mmt_ip.specs.declared.packet.IpWhy.{IpWhy}
use Rattle.mmt_ip.specs.Spelling.{Value as Datagram}
use Rattle.mmt_ip.specs.Reading.{packet_of as datagram_of}
use Rattle.mmt_ctx.specs.declared.packet.CtxWhy.{CtxWhy}
use Rattle.mmt_ctx.specs.Headers.{Header, opened_after}
use Rattle.mmt_packet.specs.declared.packet.Kind.{Kind}
use Rattle.mmt_packet.specs.declared.packet.Kind.TheVariants as kinds
use Rattle.mmt_packet.specs.declared.packet.PacketWhy.{PacketWhy}
use Rattle.mmt_packet.specs.Spelling.{Value as Mmtp, head_length}
use Rattle.mmt_packet.specs.Reading.{packet_of as mmtp_of}
use Rattle.mmt_mpu.specs.declared.types.MpuWhy.{MpuWhy}
use Rattle.mmt_mpu.specs.Spelling.{Value as Mpu}
use Rattle.mmt_mpu.specs.Reading.{payload_of as mpu_of}
use Rattle.mmt_sig.specs.declared.head.SigWhy.{SigWhy}
use Rattle.mmt_sig.specs.Payload.{Payload}
use Rattle.mmt_sig.specs.PayloadReading.{payload_of as sig_of}
use Rattle.mmt_hear.specs.Hearing.{ip_reason, ctx_reason, mmtp_reason, payload_place, compressed_bodies}
use Rattle.mmt_list.specs.Text.{head_text, ends_text, ctx_text, mmtp_text, mpu_text, units_text}
use Rattle.mmt_list.specs.Signalling.{sig_text, messages_text}
use Rattle.mmt_words.specs.Words.{why_words, mpu_words, sig_word}

-- a refusal: its place and its words
unfoldable pub refused_text : ℕ → List ℕ → List ℕ
refused_text place words = codes " | refused " ++ decimal place ++ codes " " ++ words

-- an MPU payload at a place: what it says and its units, or its refusal
unfoldable pub mpu_section : ℕ → Result Mpu (Refused MpuWhy) → List ℕ
mpu_section at (Ok v) = mpu_text v ++ units_text v.units
mpu_section at (Err e) = refused_text (at + e.at) (mpu_words e.why)

-- a signalling payload at a place: what it says and its messages, or its refusal (ISO/IEC 23008-1, the header of the signalling message mode)
unfoldable pub sig_section : ℕ → Result Payload (Refused SigWhy) → List ℕ
sig_section at (Ok v) = sig_text v ++ messages_text v
sig_section at (Err e) = refused_text (at + e.at) (sig_word e.why)

-- the payload of an MMTP packet, by its kind: that of an MPU or of signalling, and no section for a generic object
unfoldable pub kind_section : Kind → ℕ → List ℕ → List ℕ
kind_section kinds.Mpu at payload = mpu_section at (mpu_of payload)
kind_section kinds.Generic at payload = []
kind_section kinds.Signalling at payload = sig_section at (sig_of payload)

-- an MMTP packet at a place: its fields and its payload, which begins after its header, or its refusal
unfoldable pub mmtp_section : ℕ → Result Mmtp (Refused PacketWhy) → List ℕ
mmtp_section at (Ok p) = mmtp_text p ++ kind_section p.kind (at + head_length p) p.payload
mmtp_section at (Err e) = refused_text (at + e.at) (why_words (mmtp_reason e.why))

-- the 64-bit number in bytes 40 to 47 of an NTP message: its transmit timestamp (RFC 5905, section 7.3)
unfoldable pub ntp_time : List ℕ → ℕ
ntp_time message = from_be_bytes w64 (take 8 (drop 40 message))

-- an NTP message, or one that is too short to have a transmit timestamp
unfoldable pub ntp_section : List ℕ → List ℕ
ntp_section message = if nat_lt (length message) 48 then codes " | ntp short" else codes " | ntp " ++ decimal (ntp_time message)

-- a UDP payload at a place: NTP on port 123, and else MMTP
unfoldable pub port_section : ℕ → ℕ → List ℕ → List ℕ
port_section port at payload = if port == 123 then ntp_section payload else mmtp_section at (mmtp_of payload)

-- the IPv6 packet in a TLV packet at a place: its body begins at byte 4, and its UDP payload at byte 52
unfoldable pub ip_section : ℕ → Result Datagram (Refused IpWhy) → List ℕ
ip_section place (Ok d) = codes " | " ++ ends_text d.header ++ port_section d.header.destination_port (place + 52) d.payload
ip_section place (Err e) = refused_text (place + (4 + e.at)) (why_words (ip_reason e.why))

-- the header-compressed packet in a TLV packet at a place, whose UDP payload begins at byte 49 with a header and 7 without
unfoldable pub ctx_section : ℕ → Result Header (Refused CtxWhy) → List ℕ
ctx_section place (Ok h) = ctx_text h ++ port_section h.header.destination_port (place + payload_place h.full) h.payload
ctx_section place (Err e) = refused_text (place + (4 + e.at)) (why_words (ctx_reason e.why))

-- the sections of a packet after earlier ones, the newest of them first, by its kind: those of IPv6 and of
-- header-compressed IP with the header that looking back finds, and none for the others
unfoldable pub sections : ℕ → List Packet → Packet → List ℕ
sections place earlier packet =
    if packet.kind == 2 then ip_section place (datagram_of packet.body)
    else if packet.kind == 3 then ctx_section place (opened_after (compressed_bodies earlier) packet.body)
    else []

-- the line of the packet that begins at a place, after earlier ones, the newest of them first
unfoldable pub line_of : ℕ → List Packet → Packet → List ℕ
line_of place earlier packet = head_text place packet.kind (length packet.body) ++ sections place earlier packet ++ codes "\n"

-- a line for each packet, where the first begins at a place and others came before, the newest of them first
unfoldable pub lines_from : ℕ → List Packet → List Packet → List ℕ
lines_from place earlier [] = []
lines_from place earlier (packet ∷ packets) = line_of place earlier packet ++ lines_from (place + length (spelling packet)) (packet ∷ earlier) packets

-- the lines of a stream's packets
abbrev pub lines : List Packet → List ℕ
lines packets = lines_from 0 [] packets
