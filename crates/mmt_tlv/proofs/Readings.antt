-- An answer that is true of the bytes is the only one.
use Rattle.std.proofs.Common.{◌≡◌, inr, ℕ, ◌≤◌, List, ◌++◌, length, take, drop, refl, ap, sym, subst, ◌∙◌, arith}
use Rattle.std.proofs.lemmas.List.{length-take, take-append-drop}
use Rattle.mmt_tlv.specs.Framing.{Packet, Fits, spelling, IsFront, IsOutOfSync}
use Rattle.mmt_tlv.specs.Reading.{packet_of, ReadsTlv, IsWhole}
use Rattle.mmt_tlv.specs.declared.TlvRead.{TlvRead}
use Rattle.mmt_tlv.specs.declared.TlvRead.TheVariants.{Whole, Short, Sync}
use Rattle.mmt_tlv.proofs.Unique.{same_packet, front_is_short, rest_is_short, front_in_sync}

-- the bytes from the packet that was read
from_read : (p : Packet) (used : ℕ) (bytes : List ℕ) → take used bytes ≡ spelling p → bytes ≡ spelling p ++ drop used bytes
from_read p used bytes e = sym (take-append-drop used bytes) ∙ ap (λ x. x ++ drop used bytes) e

-- the packet takes as many bytes as were used
pub used_is : (p : Packet) (used : ℕ) (bytes : List ℕ) → used ≤ length bytes → take used bytes ≡ spelling p → used ≡ length (spelling p)
used_is p used bytes within e =
    let size : length (take used bytes) ≡ length (spelling p) = ap length e in
    omega (arith, size, length-take used bytes)

pub read_whole : (answer : TlvRead) (bytes : List ℕ) → ReadsTlv answer bytes → (packet : Packet) (rest : List ℕ) → Fits packet → bytes ≡ spelling packet ++ rest → IsWhole answer packet
read_whole (Whole tlv used) bytes (fits, within, e) packet rest f is =
    let same : packet_of tlv ≡ packet = (same_packet (packet_of tlv) packet (drop used bytes) rest (sym (from_read (packet_of tlv) used bytes e) ∙ is)).0 in
    let P : Packet → Type 0 = λ p. used ≡ length (spelling p) in
    (same, subst P same (used_is (packet_of tlv) used bytes within e))
read_whole Short bytes front packet rest f is = front_is_short packet rest bytes front is
read_whole Sync bytes out packet rest f is = rest_is_short packet rest bytes (inr out) is

pub read_short : (answer : TlvRead) (bytes : List ℕ) → ReadsTlv answer bytes → IsFront bytes → answer ≡ Short
read_short (Whole tlv used) bytes (fits, within, e) front = absurd (front_is_short (packet_of tlv) (drop used bytes) bytes front (from_read (packet_of tlv) used bytes e))
read_short Short bytes read front = refl
read_short Sync bytes out front = absurd (front_in_sync bytes front out)

pub read_sync : (answer : TlvRead) (bytes : List ℕ) → ReadsTlv answer bytes → IsOutOfSync bytes → answer ≡ Sync
read_sync (Whole tlv used) bytes (fits, within, e) out = absurd (rest_is_short (packet_of tlv) (drop used bytes) bytes (inr out) (from_read (packet_of tlv) used bytes e))
read_sync Short bytes front out = absurd (front_in_sync bytes front out)
read_sync Sync bytes read out = refl
