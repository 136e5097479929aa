-- A stream of header-compressed packets as one of plain packets (ARIB STD-B32 Part 3, RFC 8200, RFC 768). Earlier packets stand
-- with the newest first.
use Rattle.std.specs.Prelude.{◌≡◌, ℕ, true, ◌==◌, nat_le, List, ◌++◌, length, Result, Ok, Err, if◌then◌else◌}
use Rattle.mmt_base.specs.declared.refused.Refused.{Refused}
use Rattle.mmt_tlv.specs.Framing.{Packet, spelling}
use Rattle.mmt_ip.specs.Spelling.{spelling as plain_spelling}
use Rattle.mmt_ctx.specs.declared.packet.CtxWhy.{CtxWhy}
use Rattle.mmt_ctx.specs.Headers.{Header as Opened, opened_after}
use Rattle.mmt_hear.specs.Hearing.{compressed_bodies}
use Rattle.mmt_gate.specs.declared.expander.ExpandEnd.{ExpandEnd}
use Rattle.mmt_gate.specs.declared.expander.ExpandEnd.TheVariants as end
use Rattle.mmt_gate.specs.Image.{image}

-- the longest UDP payload of a plain packet, in bytes: the body of a TLV packet has at most 65,535, of which the two headers take 48
abbrev pub longest : ℕ
longest = 65487

-- a header-compressed packet with the header that it has, as a TLV packet of type 2: the same fields and payload, the lengths, and
-- the checksum
abbrev pub plain_packet : Opened → Packet
plain_packet v = record { kind = 2; body = plain_spelling (record { header = v.header; summed = true; payload = v.payload }) }

-- what a header-compressed packet becomes, or why it is left out: it is refused, or its payload is too long for a plain packet
abbrev pub expanded_opened : Result Opened (Refused CtxWhy) → Result Packet ExpandEnd
expanded_opened (Ok v) = if nat_le (length v.payload) longest then Ok (plain_packet v) else Err (end.TooLong (length v.payload))
expanded_opened (Err e) = Err (end.Refused e.at e.why)

-- what a packet becomes after the earlier ones: packets of other types than 3 stay as they are
unfoldable pub expanded : List Packet → Packet → Result Packet ExpandEnd
expanded earlier packet = if packet.kind == 3 then expanded_opened (opened_after (compressed_bodies earlier) packet.body) else Ok packet

-- a stream with all headers
abbrev pub expansion : List Packet → List Packet
expansion packets = image expanded packets

-- An answer for a packet that is to become this: the packet was appended, or it is left out for this reason and nothing was
-- appended. `OutOfMemory`, which appends nothing, is free.
abbrev pub Expands : {T : Type 0} → Result T ExpandEnd → List ℕ → List ℕ → Result Packet ExpandEnd → Type 0
Expands (Ok done) old new wanted = (packet : Packet) × (wanted ≡ Ok packet) × (new ≡ old ++ spelling packet)
Expands (Err end.OutOfMemory) old new wanted = new ≡ old
Expands (Err (end.Refused at why)) old new wanted = (wanted ≡ Err (end.Refused at why)) × (new ≡ old)
Expands (Err (end.TooLong len)) old new wanted = (wanted ≡ Err (end.TooLong len)) × (new ≡ old)
