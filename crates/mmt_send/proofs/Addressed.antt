-- How a packet is addressed, and how long its body is.
use Rattle.std.proofs.Common.{◌≡◌, ℕ, ◌+◌, ◌-◌, ◌/◌, ◌%◌, ◌<◌, ◌≤◌, Bool, true, ◌==◌, cond, List, [], ◌∷◌, ◌++◌, length, set, Option, Some, None, arith, refl, sym, ap, append_assoc, subst, ◌∙◌, eq-eqb}
use Rattle.std.proofs.lemmas.Bool.{ne_eqb}
use Rattle.std.proofs.lemmas.List.{length-append}
use Rattle.mmt_fields.proofs.Numbers.{length_big_endian}
use Rattle.mmt_ip.specs.declared.packet.Ip6Header.{Ip6Header}
use Rattle.mmt_ip.specs.Spelling.{Value as Datagram, spelling as datagram_spelling}
use Rattle.mmt_ctx.specs.Spelling.{full_header, spelling as compressed_spelling}
use Rattle.mmt_ctx.specs.Squeezing.{Squeezing, packet_at}
use Rattle.mmt_send.specs.Calls.{IsAt, IsBegun}
use Rattle.mmt_send.specs.declared.addressing.Addresser.{Addresser}
use Rattle.mmt_send.specs.declared.addressing.Addresser.TheVariants.{Squeezed}
use Rattle.mmt_tlv.specs.Framing.{Packet as Tlv, spelling}
use Rattle.mmt_sent.specs.Packets.{Addressing, addressed, squeezing}

pub datagram-long : (v : Datagram) → length (datagram_spelling v) ≡ 48 + length v.payload
unfolding datagram_spelling
datagram-long v = simp (length-append, length_big_endian) (omega arith)

header-long : (h : Ip6Header) → length (full_header h) ≡ 42
unfolding full_header
header-long h = simp (length-append, length_big_endian) refl

compressed-long : (context number : ℕ) (header : Option Ip6Header) → length (compressed_spelling (record { context = context; number = number; header = header; payload = [] })) ≤ 45
unfolding compressed_spelling
compressed-long context number None = simp (length-append, length_big_endian) (omega arith)
compressed-long context number (Some h) = simp (length-append, length_big_endian) (omega (arith, header-long h))

-- how long a plain packet is
pub plain-short : (out : List ℕ) (v : Datagram) → out ≡ spelling (record { kind = 2; body = [] }) ++ datagram_spelling v → length v.payload ≤ 65000 → length out < 65540
plain-short out v e l = omega (arith, ap (λ (xs : List ℕ). length xs) e, datagram-long v)

pub plain-addressed : (a : Addressing) (call : ℕ) (header : Ip6Header) (payload out : List ℕ) → a.full_every ≡ 0 → header ≡ a.header → out ≡ datagram_spelling (record { header = header; summed = true; payload = payload })
    → addressed a call payload ≡ record { kind = 2; body = out }
unfolding addressed
plain-addressed a call header payload out none same e =
    ap (λ (b : Bool). cond b (record { kind = 2; body = datagram_spelling (record { header = a.header; summed = true; payload = payload }) }) (record { kind = 3; body = compressed_spelling (packet_at call (squeezing a call) payload) }))
    (eq-eqb a.full_every 0 none)
    ∙ ap (λ (body : List ℕ). let t : Tlv = record { kind = 2; body = body } in t) (ap (λ (h : Ip6Header). datagram_spelling (record { header = h; summed = true; payload = payload })) (sym same) ∙ sym e)

pub squeezed-addressed : (a : Addressing) (call : ℕ) (s : Squeezing) (payload out : List ℕ) → (a.full_every ≡ 0 → ⊥) → s.context ≡ a.context → s.full_every ≡ a.full_every → s.header ≡ a.header
    → out ≡ compressed_spelling (packet_at call s payload) → addressed a call payload ≡ record { kind = 3; body = out }
unfolding addressed
squeezed-addressed a call s payload out some context every header e =
    let same : packet_at call (squeezing a call) payload ≡ packet_at call s payload = cc in
    ap (λ (b : Bool). cond b (record { kind = 2; body = datagram_spelling (record { header = a.header; summed = true; payload = payload }) }) (record { kind = 3; body = compressed_spelling (packet_at call (squeezing a call) payload) }))
    (ne_eqb a.full_every 0 some)
    ∙ ap (λ (body : List ℕ). let t : Tlv = record { kind = 3; body = body } in t) (ap compressed_spelling same ∙ sym e)

pub at-variant : (a : Addressing) (call : ℕ) (s v : Addresser) → s ≡ v → IsAt a call s → IsAt a call v
at-variant a call s v e is = subst (IsAt a call) e is

-- the head of a TLV packet, and what is after it
pub head-first : (kind : ℕ) (cleared head out body : List ℕ) → cleared ≡ [] → head ≡ cleared ++ spelling (record { kind = kind; body = [] }) → out ≡ head ++ body
    → out ≡ spelling (record { kind = kind; body = [] }) ++ body
head-first kind cleared head out body none h o =
    o ∙ ap (λ (xs : List ℕ). xs ++ body) (h ∙ ap (λ (xs : List ℕ). xs ++ spelling (record { kind = kind; body = [] })) none)

-- the compressed headers, and the payload after them
squeezed-first : (call : ℕ) (s : Squeezing) (payload : List ℕ) → compressed_spelling (packet_at call s []) ++ payload ≡ compressed_spelling (packet_at call s payload)
unfolding compressed_spelling
squeezed-first call s payload = simp append_assoc

-- how long what comes before a payload is
pub squeezed-few : (call : ℕ) (s : Squeezing) (out : List ℕ) → out ≡ spelling (record { kind = 3; body = [] }) ++ compressed_spelling (packet_at call s []) → length out ≤ 49
squeezed-few call s out e =
    let l = compressed-long s.context (call % 16) (cond (call % s.full_every == 0) (Some s.header) None) in
    omega (arith, ap (λ (xs : List ℕ). length xs) e, l)

-- a packet with compressed headers, all but its length
pub squeezed-begun : (a : Addressing) (call : ℕ) (s : Squeezing) (out payload : List ℕ) → IsAt a call (Squeezed s) → out ≡ spelling (record { kind = 3; body = [] }) ++ compressed_spelling (packet_at call s [])
    → IsBegun (out ++ payload) (addressed a call payload)
squeezed-begun a call s out payload at e =
    let whole = compressed_spelling (packet_at call s payload) in
    ap (λ (xs : List ℕ). xs ++ payload) e
    ∙ append_assoc (spelling (record { kind = 3; body = [] })) (compressed_spelling (packet_at call s [])) payload
    ∙ ap (λ (xs : List ℕ). spelling (record { kind = 3; body = [] }) ++ xs) (squeezed-first call s payload)
    ∙ ap (λ (t : Tlv). spelling (record { kind = t.kind; body = [] }) ++ t.body) (sym (squeezed-addressed a call s payload whole at.0 at.1 at.2 at.3 refl))

-- fewer bytes begin no packet
pub begun-long : (bytes : List ℕ) (packet : Tlv) → IsBegun bytes packet → 4 ≤ length bytes
begun-long bytes packet e = omega (arith, ap (λ (xs : List ℕ). length xs) e)

-- a packet of which the length was written last
pub ended : (bytes : List ℕ) (packet : Tlv) (n : ℕ) → IsBegun bytes packet → n ≡ length bytes - 4 → set (set bytes 2 (n / 256)) 3 (n % 256) ≡ spelling packet
ended bytes packet n e l =
    let same : n ≡ length packet.body = omega (arith, l, ap (λ (xs : List ℕ). length xs) e) in
    ap (λ (xs : List ℕ). set (set xs 2 (n / 256)) 3 (n % 256)) e ∙ ap (λ (m : ℕ). 127 ∷ packet.kind ∷ (m / 256) ∷ (m % 256) ∷ packet.body) same
