-- The lines of a stream grow with its packets.
use Rattle.std.proofs.Common.{◌≡◌, ℕ, ◌+◌, List, [], ◌∷◌, ◌++◌, length, refl, ap, sym, ◌∙◌, append_assoc, add_assoc, zero-add}
use Rattle.std.proofs.Math.Nat.{add-zero}
use Rattle.std.proofs.lemmas.List.{append-nil, length-append}
use Rattle.mmt_model.specs.Delivery.{onto, newest_first}
use Rattle.mmt_tlv.specs.Framing.{Packet, spelling, joined}
use Rattle.mmt_list.specs.Line.{line_of, lines_from, lines}

from_append : (place : ℕ) (earlier packets others : List Packet)
    → lines_from place earlier (packets ++ others) ≡ lines_from place earlier packets ++ lines_from (place + length (joined packets)) (onto packets earlier) others
unfolding lines_from onto
from_append place earlier [] others = ap (λ n. lines_from n earlier others) (sym (add-zero place))
from_append place earlier (p ∷ packets) others =
    ap (λ x. line_of place earlier p ++ x) (from_append (place + length (spelling p)) (p ∷ earlier) packets others
    ∙ ap (λ n. lines_from (place + length (spelling p)) (p ∷ earlier) packets ++ lines_from n (onto packets (p ∷ earlier)) others)
    (add_assoc place (length (spelling p)) (length (joined packets)) ∙ ap (λ n. place + n) (sym (length-append (spelling p) (joined packets)))))
    ∙ sym (append_assoc (line_of place earlier p) (lines_from (place + length (spelling p)) (p ∷ earlier) packets) _)

-- more packets add their lines behind those that are there
pub lines_append : (packets others : List Packet) → lines (packets ++ others) ≡ lines packets ++ lines_from (length (joined packets)) (newest_first packets) others
unfolding newest_first
lines_append packets others = from_append 0 [] packets others ∙ ap (λ n. lines packets ++ lines_from n (onto packets []) others) (zero-add (length (joined packets)))

one_line : (place : ℕ) (earlier : List Packet) (packet : Packet) → lines_from place earlier (packet ∷ []) ≡ line_of place earlier packet
unfolding lines_from
one_line place earlier packet = append-nil (line_of place earlier packet)

-- one packet more is one line more
pub lines_next : (packets : List Packet) (packet : Packet) (place : ℕ) → place ≡ length (joined packets)
    → lines (packets ++ packet ∷ []) ≡ lines packets ++ line_of place (newest_first packets) packet
lines_next packets packet place at =
    lines_append packets (packet ∷ []) ∙ ap (λ x. lines packets ++ x) (one_line (length (joined packets)) (newest_first packets) packet ∙ ap (λ n. line_of n (newest_first packets) packet) (sym at))

-- no packets have no lines
pub no_lines : lines [] ≡ []
unfolding lines_from
no_lines = refl
