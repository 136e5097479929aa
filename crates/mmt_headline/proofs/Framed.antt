-- The bytes of a delivery are framed as its packets.
use Rattle.std.proofs.Common.{◌≡◌, inl, ℕ, ◌+◌, ◌%◌, ◌<◌, Bool, true, false, ◌==◌, cond, List, [], ◌∷◌, map, length, Option, Some, None, arith, refl, sym}
use Rattle.std.specs.List.{All}
use Rattle.std.proofs.lemmas.List.{append-nil, length-append}
use Rattle.std.proofs.lemmas.List.Elements.{All-nil, All-cons}
use Rattle.mmt_fields.proofs.Numbers.{length_big_endian}
use Rattle.mmt_ip.specs.declared.packet.Ip6Header.{Ip6Header}
use Rattle.mmt_ip.specs.Spelling.{Value as Datagram, spelling as datagram_spelling}
use Rattle.mmt_ctx.specs.Spelling.{full_header, spelling as compressed_spelling}
use Rattle.mmt_ctx.specs.Squeezing.{packet_at}
use Rattle.mmt_model.specs.Survival.{AreOf}
use Rattle.mmt_model.specs.declared.casts.Cast.{Cast}
use Rattle.mmt_model.specs.declared.programmes.Programme.{Programme}
use Rattle.mmt_packet.specs.Spelling.{spelling as packet_spelling}
use Rattle.mmt_tlv.specs.Framing.{Fits, joined}
use Rattle.mmt_tlv.proofs.Fronts.{front_nil}
use Rattle.mmt_sent.specs.Packets.{Addressing, addressed, mmtp_at, squeezing, tlv_at}
use Rattle.mmt_headline.specs.Heard.{IsSentAt}
use Rattle.mmt_headline.proofs.Packets.{packet-long}
use Rattle.mmt_sent.specs.Stream.{addressing_of, contents_sent, packet_sent, stream_of}
use Rattle.mmt_headline.specs.Programmes.{IsSendable, StreamsAreFramed}
use Rattle.mmt_headline.proofs.Sent.{casts-sent}

datagram-long : (v : Datagram) → length (datagram_spelling v) ≡ 48 + length v.payload
unfolding datagram_spelling
datagram-long v = simp (length-append, length_big_endian) (omega arith)

header-long : (h : Ip6Header) → length (full_header h) ≡ 42
unfolding full_header
header-long h = simp (length-append, length_big_endian) refl

compressed-long : (context number : ℕ) (header : Option Ip6Header) (payload : List ℕ) → length payload < 65012 → length (compressed_spelling (record { context = context; number = number; header = header; payload = payload })) < 65536
unfolding compressed_spelling
compressed-long context number None payload lt = simp (length-append, length_big_endian) (omega arith)
compressed-long context number (Some h) payload lt = simp (length-append, length_big_endian) (omega (arith, header-long h))

addressed-fits : (a : Addressing) (call : ℕ) (payload : List ℕ) → length payload < 65012 → Fits (addressed a call payload)
unfolding addressed
addressed-fits a call payload lt = go (a.full_every == 0)
  where
    go : (b : Bool) → Fits (cond b (record { kind = 2; body = datagram_spelling (record { header = a.header; summed = true; payload = payload }) }) (record { kind = 3; body = compressed_spelling (packet_at call (squeezing a call) payload) }))
    go true = record { kind = omega arith; length = omega (arith, datagram-long (record { header = a.header; summed = true; payload = payload })) }
    go false = record { kind = omega arith; length = compressed-long a.context (call % 16) (cond (call % a.full_every == 0) (Some a.header) None) payload lt }

all-fit : (programme : Programme) (cast : Cast) (files : ℕ → List ℕ) → IsSendable programme cast files → (ds : List ℕ) → AreOf cast.packets ds
    → All Fits (map (tlv_at (addressing_of programme) cast (contents_sent programme files)) ds)
all-fit programme cast files ok [] of = All-nil Fits
all-fit programme cast files ok (d ∷ ds) of =
    let s : IsSentAt cast (contents_sent programme files) d = casts-sent programme cast files ok d of.0 in
    All-cons Fits (tlv_at (addressing_of programme) cast (contents_sent programme files) d) (map (tlv_at (addressing_of programme) cast (contents_sent programme files)) ds)
    (addressed-fits (addressing_of programme) d (packet_spelling (mmtp_at cast (contents_sent programme files) d)) (packet-long cast (contents_sent programme files) d s))
    (all-fit programme cast files ok ds of.1)

pub streams-framed : StreamsAreFramed
unfolding stream_of packet_sent
streams-framed programme cast files delivery ok of =
    record { whole = sym (append-nil (joined (stream_of programme cast files delivery))); each = all-fit programme cast files ok delivery of; left = inl front_nil }
