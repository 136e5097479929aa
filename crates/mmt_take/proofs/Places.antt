-- The place of a packet is the number of bytes of all packets before it.
use Rattle.std.proofs.Common.{◌≡◌, ℕ, ◌+◌, List, [], ◌∷◌, ◌++◌, length, ap, sym, ◌∙◌, arith}
use Rattle.std.proofs.lemmas.List.{length-append}
use Rattle.std.proofs.lemmas.List.Sums.{sum_by-cons}
use Rattle.mmt_model.specs.Delivery.{onto, newest_first}
use Rattle.mmt_tlv.specs.Framing.{Packet, spelling, joined}
use Rattle.mmt_take.specs.Taking.{bytes_of, placed}
use Rattle.mmt_take.specs.TakingGrows.{placed_next as placed_behind}

onto_bytes : (packets older : List Packet) → bytes_of (onto packets older) ≡ length (joined packets) + bytes_of older
unfolding onto
onto_bytes [] older = omega arith
onto_bytes (p ∷ packets) older = omega (arith, onto_bytes packets (p ∷ older), sum_by-cons (λ q. length (spelling q)) p older, length-append (spelling p) (joined packets))

-- the packets turned round have as many bytes
pub newest_bytes : (packets : List Packet) → bytes_of (newest_first packets) ≡ length (joined packets)
unfolding newest_first
newest_bytes packets = omega (arith, onto_bytes packets [])

-- a packet more at its place
pub placed_next : (place : ℕ) (packets : List Packet) (packet : Packet) → place ≡ length (joined packets)
    → placed (newest_first (packets ++ packet ∷ [])) ≡ record { place = place; packet = packet } ∷ placed (newest_first packets)
placed_next place packets packet at =
    placed_behind packets packet ∙ ap (λ n. record { place = n; packet = packet } ∷ placed (newest_first packets)) (newest_bytes packets ∙ sym at)
