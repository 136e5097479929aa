-- The parts that are left once one more was lent.
use Rattle.std.proofs.Common.{◌≡◌, ℕ, ◌-◌, List, ◌∷◌, length, refl, ap, sym, ◌∙◌, arith}
use Rattle.mmt_model.specs.Packets.{Heard, Payload}
use Rattle.mmt_model.specs.Units.{Link, link_at, packet_at, next_number, joined}
use Rattle.mmt_runs.specs.Lending.{all_parts, parts_from, link_bytes}
use Rattle.mmt_runs.proofs.Linking.{parts_step, parts_rest}
use Rattle.mmt_runs.proofs.Held.{joined_length}

none_left : (link : Payload → Link) (kept : List Heard) (id n : ℕ) (bytes : List ℕ) (number : ℕ) → n ≡ 0 → parts_from link kept id n number ≡ all_parts link kept id n bytes number
unfolding parts_from
none_left link kept id n bytes number z = rw z refl

-- the last part is lent
pub lent_last : (link : Payload → Link) (kept : List Heard) (id left : ℕ) (bytes : List ℕ) (number : ℕ) → (left ≡ 0 → ⊥) → left - 1 ≡ 0
    → all_parts link kept id left bytes number ≡ bytes ∷ all_parts link kept id (left - 1) bytes number
lent_last link kept id left bytes number n z = parts_step link kept id left bytes number n ∙ ap (λ l. bytes ∷ l) (none_left link kept id (left - 1) bytes number z)

-- a part is lent, and the next one is that of the next packet
pub lent_more : (link : Payload → Link) (kept : List Heard) (id left : ℕ) (bytes after : List ℕ) (number next : ℕ) → (left ≡ 0 → ⊥) → (left - 1 ≡ 0 → ⊥)
    → after ≡ link_bytes (link_at link (packet_at kept id number)) → next ≡ next_number number
    → all_parts link kept id left bytes number ≡ bytes ∷ all_parts link kept id (left - 1) after next
lent_more link kept id left bytes after number next n m b e =
    parts_step link kept id left bytes number n ∙ ap (λ l. bytes ∷ l) (sym (parts_rest link kept id (left - 1) after number next m b e))

pub length_left : (n : ℕ) (ps qs : List (List ℕ)) (b : List ℕ) → n ≡ length (joined ps) → ps ≡ b ∷ qs → n - length b ≡ length (joined qs)
length_left n ps qs b e is = omega (arith, e, ap (λ l. length (joined l)) is, joined_length b qs)
