-- How long an MMTP packet of a cast is, and that it is the one at its place.
use Rattle.std.proofs.Common.{◌≡◌, ℕ, ◌+◌, Bool, List, [], ◌++◌, length, get_or, None, arith, append_assoc, refl, ap, ap₂, ◌∙◌}
use Rattle.std.proofs.lemmas.List.{length-append}
use Rattle.mmt_fields.proofs.Numbers.{length_big_endian}
use Rattle.mmt_model.specs.Carrying.{Contents}
use Rattle.mmt_model.specs.Survival.{no_packet}
use Rattle.mmt_model.specs.declared.casts.Cast.{Cast}
use Rattle.mmt_model.specs.declared.casts.Sent.{Sent}
use Rattle.mmt_packet.specs.Spelling.{spelling}
use Rattle.mmt_packet.specs.declared.packet.Kind.{Kind}
use Rattle.mmt_model.specs.declared.programmes.Programme.{Programme}
use Rattle.mmt_base.specs.Ticks.{low}
use Rattle.mmt_sent.specs.Packets.{addressed, mmtp_at}
use Rattle.mmt_sent.specs.Payloads.{bytes_of, kind_of, written}
use Rattle.mmt_sent.specs.Stream.{addressing_of, contents_sent, packet_sent}
use Rattle.mmt_tlv.specs.Framing.{Packet as Tlv, spelling as tlv_spelling}
use Rattle.mmt_send.specs.Calls.{IsBegun}
use Rattle.mmt_send.specs.Carried.{mmtp_of}

packet-long : (rap : Bool) (kind : Kind) (packet_id time number : ℕ) (payload : List ℕ)
    → length (spelling (record { counter = None; rap = rap; reserved = 0; kind = kind; packet_id = packet_id; time = time; number = number; extension = None; payload = payload })) ≡ 12 + length payload
unfolding spelling
packet-long rap kind packet_id time number payload = simp (length-append, length_big_endian) (omega arith)

-- the header alone has 12 bytes
pub head-long : (rap : Bool) (kind : Kind) (packet_id time number : ℕ) (out old : List ℕ)
    → out ≡ old ++ spelling (record { counter = None; rap = rap; reserved = 0; kind = kind; packet_id = packet_id; time = time; number = number; extension = None; payload = [] })
    → length out ≡ length old + 12
head-long rap kind packet_id time number out old e =
    omega (
      arith,
      ap (λ (xs : List ℕ). length xs) e,
      length-append old (spelling (record { counter = None; rap = rap; reserved = 0; kind = kind; packet_id = packet_id; time = time; number = number; extension = None; payload = [] })),
      packet-long rap kind packet_id time number [],
    )

-- the header, and the payload after it
pub head-first : (rap : Bool) (kind : Kind) (packet_id time number : ℕ) (payload : List ℕ)
    → spelling (record { counter = None; rap = rap; reserved = 0; kind = kind; packet_id = packet_id; time = time; number = number; extension = None; payload = [] }) ++ payload
    ≡ spelling (record { counter = None; rap = rap; reserved = 0; kind = kind; packet_id = packet_id; time = time; number = number; extension = None; payload = payload })
unfolding spelling
head-first rap kind packet_id time number payload = simp append_assoc

-- the header of a packet of the cast, and its payload after it
pub packet-made : (cast : Cast) (contents : Contents) (p : Sent) (kind : Kind) (time : ℕ) (out head old : List ℕ)
    → head ≡ old ++ spelling (record { counter = None; rap = p.rap; reserved = 0; kind = kind; packet_id = p.packet_id; time = time; number = p.number; extension = None; payload = [] })
    → kind ≡ kind_of (written cast contents p.carries) → time ≡ low p.at.0 → out ≡ head ++ bytes_of (written cast contents p.carries) → out ≡ old ++ spelling (mmtp_of cast contents p)
packet-made cast contents p kind time out head old h k t o =
    let payload : List ℕ = bytes_of (written cast contents p.carries) in
    let first : List ℕ = spelling (record { counter = None; rap = p.rap; reserved = 0; kind = kind; packet_id = p.packet_id; time = time; number = p.number; extension = None; payload = [] }) in
    o
    ∙ ap (λ (xs : List ℕ). xs ++ payload) h
    ∙ append_assoc old first payload
    ∙ ap (λ (xs : List ℕ). old ++ xs)
    (head-first p.rap kind p.packet_id time p.number payload
    ∙ ap₂ (λ (x : Kind) (y : ℕ). spelling (record { counter = None; rap = p.rap; reserved = 0; kind = x; packet_id = p.packet_id; time = y; number = p.number; extension = None; payload = payload })) k t)

-- what is appended to nothing stands alone
pub alone : (out old x : List ℕ) → old ≡ [] → out ≡ old ++ x → out ≡ x
alone out old x none e = e ∙ ap (λ (xs : List ℕ). xs ++ x) none

-- the packet at a place
pub at-place : (cast : Cast) (contents : Contents) (n : ℕ) (p : Sent) → p ≡ get_or cast.packets n no_packet → mmtp_of cast contents p ≡ mmtp_at cast contents n
unfolding mmtp_at
at-place cast contents n p e = ap (λ (q : Sent). mmtp_of cast contents q) e

-- the TLV packet at a place of the stream
pub packet-is : (programme : Programme) (cast : Cast) (files : ℕ → List ℕ) (n : ℕ) (p : Sent) (outer made : List ℕ) → p ≡ get_or cast.packets n no_packet
    → made ≡ spelling (mmtp_of cast (contents_sent programme files) p) → outer ≡ tlv_spelling (addressed (addressing_of programme) n made) → outer ≡ tlv_spelling (packet_sent programme cast files n)
unfolding packet_sent
packet-is programme cast files n p outer made e m o =
    o ∙ ap (λ (payload : List ℕ). tlv_spelling (addressed (addressing_of programme) n payload)) (m ∙ ap spelling (at-place cast (contents_sent programme files) n p e))

-- the same of one that was begun before its MMTP packet was made
pub begun-is : (programme : Programme) (cast : Cast) (files : ℕ → List ℕ) (n : ℕ) (p : Sent) (head made outer : List ℕ) → p ≡ get_or cast.packets n no_packet
    → made ≡ head ++ spelling (mmtp_of cast (contents_sent programme files) p)
    → ((payload : List ℕ) → IsBegun (head ++ payload) (addressed (addressing_of programme) n payload))
    → ((packet : Tlv) → IsBegun made packet → outer ≡ tlv_spelling packet) → outer ≡ tlv_spelling (packet_sent programme cast files n)
begun-is programme cast files n p head made outer e m begins ends =
    let payload : List ℕ = spelling (mmtp_of cast (contents_sent programme files) p) in
    packet-is programme cast files n p outer payload e refl (ends (addressed (addressing_of programme) n payload) (m ∙ begins payload))
