-- The datagrams of packets, type by type.
use Rattle.std.proofs.Common.{◌≡◌, ℕ, suc, ◌<◌, ◌≤◌, true, false, eqb, List, [], ◌∷◌, length, None, Ok, refl, ap, arith, inl, inr}
use Rattle.std.specs.Prelude.{All}
use Rattle.std.specs.List.{AllByRecursion}
use Rattle.std.proofs.lemmas.Bool.{eqb-true, ne_eqb, cases_lt}
use Rattle.std.proofs.lemmas.List.{get_or_past}
use Rattle.mmt_fields.proofs.Codec.{IsBytes}
use Rattle.mmt_tlv.specs.Framing.{Packet}
use Rattle.mmt_ip.specs.Spelling.{HeaderFits, Value as Plain, Fits as PlainFits, spelling as plain_spelling}
use Rattle.mmt_ip.specs.Reading.{packet_of as plain_of}
use Rattle.mmt_ip.proofs.Law.{packet_format}
use Rattle.mmt_ctx.specs.Headers.{opened_after}
use Rattle.mmt_hear.specs.Hearing.{compressed_bodies}
use Rattle.mmt_gate.specs.Datagrams.{in_plain, in_opened, datagram_of}
use Rattle.mmt_gate.specs.Promises.{IsWhole}
use Rattle.mmt_gate.proofs.Lengths.{length_plain}

pub in_turn : {X : Type 0} (P : X → Type 0) (xs : List X) → All P xs → AllByRecursion P xs
in_turn P [] all = tt
in_turn P (x ∷ xs) all = (all 0 x (omega arith), in_turn P xs (λ k d lt. all (suc k) d (omega (arith, lt))))

pub are_bytes : (bytes : List ℕ) → All (λ byte. byte < 256) bytes → IsBytes bytes
are_bytes bytes all i =
    elim (cases_lt i (length bytes)) [
      | inl lt ↦ all i 0 lt
      | inr le ↦ rw (get_or_past bytes i 0 (omega (arith, le))) (omega arith)
    ]

-- a packet of type 2, one of type 3, and any other
pub plain_has : (earlier : List Packet) (p : Packet) → eqb p.kind 2 ≡ true → datagram_of earlier p ≡ in_plain (plain_of p.body)
unfolding datagram_of
plain_has earlier p two = rw two refl

pub compressed_has : (earlier : List Packet) (p : Packet) → eqb p.kind 3 ≡ true → datagram_of earlier p ≡ in_opened (opened_after (compressed_bodies earlier) p.body)
unfolding datagram_of
compressed_has earlier p three =
    let is : p.kind ≡ 3 = eqb-true p.kind 3 three in
    rw (ne_eqb p.kind 2 (λ two. omega (arith, is, two)), three) refl

pub other_has : (earlier : List Packet) (p : Packet) → eqb p.kind 2 ≡ false → eqb p.kind 3 ≡ false → datagram_of earlier p ≡ None
unfolding datagram_of
other_has earlier p two three = rw (two, three) refl

-- what was read of a plain packet fits
pub plain_read : (p : Packet) (v : Plain) → IsWhole p → plain_of p.body ≡ Ok v → PlainFits v × (length v.payload ≤ 65487)
plain_read p v whole is =
    let f = packet_format.takes p.body v (are_bytes p.body whole.bytes) tt is in
    let short : length p.body < 65536 = whole.fits.length in
    (f.2, omega (arith, ap (λ (b : List ℕ). length b) f.0, length_plain v, short))

-- what is written of a datagram is read again
pub plain_again : (v : Plain) → HeaderFits v.header → length v.payload ≤ 65487 → plain_of (plain_spelling v) ≡ Ok v
plain_again v fits le = packet_format.again v tt (record { header = fits; len = omega (arith, le) })
