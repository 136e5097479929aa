-- A stream of plain packets as one of header-compressed packets (ARIB STD-B32 Part 3, RFC 8200, RFC 768). Earlier packets stand
-- with the newest first.
use Rattle.std.specs.Prelude.{◌≡◌, ℕ, ◌+◌, ◌==◌, List, ◌∷◌, ◌++◌, Option, Some, None, Result, Ok, Err, if◌then◌else◌, count_by}
use Rattle.mmt_base.specs.declared.refused.Refused.{Refused}
use Rattle.mmt_tlv.specs.Framing.{Packet, spelling}
use Rattle.mmt_ip.specs.declared.packet.Ip6Header.{Ip6Header}
use Rattle.mmt_ip.specs.declared.packet.IpWhy.{IpWhy}
use Rattle.mmt_ip.specs.Spelling.{Value as Plain}
use Rattle.mmt_ip.specs.Reading.{packet_of as plain_of}
use Rattle.mmt_ctx.specs.Spelling.{spelling as compressed_spelling}
use Rattle.mmt_ctx.specs.Squeezing.{Squeezing as Squeezer, packet_at}
use Rattle.mmt_gate.specs.Image.{image}
use Rattle.mmt_gate.specs.Flows.{Options, same, headers, with_context, place_among}
use Rattle.mmt_gate.specs.declared.shrinker.ShrinkEnd.{ShrinkEnd}
use Rattle.mmt_gate.specs.declared.shrinker.ShrinkEnd.TheVariants as end

-- the squeezer of the header at a place, before its first call
abbrev pub squeezer_at : Options → ℕ → Ip6Header → Squeezer
squeezer_at s place h = record { context = s.context + place; full_every = s.full_every; header = h; number = 0; since = 0 }

-- packet number `call`, from 0, of the header at a place: the body of that call of the header's squeezer
abbrev pub squeezed_as : Options → ℕ → ℕ → Ip6Header → List ℕ → Packet
squeezed_as s call place h payload = record { kind = 3; body = compressed_spelling (packet_at call (squeezer_at s place h) payload) }

-- a packet of a header, where the header has a context; otherwise it stays as it is
abbrev pub squeezed_at : Options → ℕ → Packet → Plain → Option ℕ → Packet
squeezed_at s call packet v (Some place) = squeezed_as s call place v.header v.payload
squeezed_at s call packet v None = packet

-- a packet of type 2 after the headers of the earlier ones; where it spells no IPv6 and UDP packet it stays as it is
abbrev pub squeezed_plain : Options → List Ip6Header → Packet → Result Plain (Refused IpWhy) → Packet
squeezed_plain s hs packet (Ok v) =
    squeezed_at s (count_by (same v.header) hs) packet v (place_among v.header (with_context s (v.header ∷ hs)))
squeezed_plain s hs packet (Err e) = packet

-- what a packet becomes after the earlier ones: packets of type 3 are left out, and those of other types than 2 and 3 stay as they are
unfoldable pub squeezed : Options → List Packet → Packet → Result Packet ShrinkEnd
squeezed s earlier packet =
    if packet.kind == 2 then Ok (squeezed_plain s (headers earlier) packet (plain_of packet.body))
    else (if packet.kind == 3 then Err end.Squeezed
    else Ok packet)

-- a stream with compressed headers
abbrev pub squeezing : Options → List Packet → List Packet
squeezing s packets = image (squeezed s) packets

-- An answer for a packet that is to become this: the packet was appended, or it is left out and nothing was appended. `OutOfMemory`,
-- which appends nothing, is free.
abbrev pub Squeezes : {T : Type 0} → Result T ShrinkEnd → List ℕ → List ℕ → Result Packet ShrinkEnd → Type 0
Squeezes (Ok done) old new wanted = (packet : Packet) × (wanted ≡ Ok packet) × (new ≡ old ++ spelling packet)
Squeezes (Err end.Squeezed) old new wanted = (wanted ≡ Err end.Squeezed) × (new ≡ old)
Squeezes (Err end.OutOfMemory) old new wanted = new ≡ old

-- this holds after the answer, unless there was no memory
abbrev pub IsGoing : {T : Type 0} → Result T ShrinkEnd → Type 0 → Type 0
IsGoing (Ok done) P = P
IsGoing (Err end.Squeezed) P = P
IsGoing (Err end.OutOfMemory) P = Unit {0}
