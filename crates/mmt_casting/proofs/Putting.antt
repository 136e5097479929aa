-- Packets put one after the other.
use Rattle.std.proofs.Common.{◌≡◌, ℕ, ◌+◌, ◌*◌, ◌==◌, ◌&&◌, if◌then◌else◌, ◌≤◌, suc, zero, List, [], ◌∷◌, ◌++◌, map, arith, refl, ap, ap₂, sym, ◌∙◌, append_assoc}
use Rattle.mmt_cast.specs.Casting.{with_number}
use Rattle.mmt_frag.specs.Cuts.{part_length, parts}
use Rattle.mmt_cast.specs.Sending.{Sending, carried, header_length, id_of, packet_count, packet_of, payload_length, rap_of, tick_of_packet}
use Rattle.mmt_cast.specs.Placing.{PlacedUnit}
use Rattle.mmt_casting.specs.Alone.{alone_packet, alone_packets}
use Rattle.mmt_casting.specs.declared.alone.Place.{Place}
use Rattle.mmt_casting.specs.Numbered.{numbered_packet, numbered_packets}
use Rattle.mmt_model.specs.declared.casts.Carries.TheVariants as carries
use Rattle.mmt_model.specs.declared.programmes.Programme.{Programme}
use Rattle.mmt_model.specs.Carrying.{numbers}
use Rattle.mmt_model.specs.declared.casts.Sent.{Sent}

pub part-le : (length limit k : ℕ) → part_length length limit k ≤ limit
unfolding part_length
part-le length limit k = omega arith

numbers-last : (f : ℕ → Sent) (j n : ℕ) → map f (numbers j (suc n)) ≡ map f (numbers j n) ++ f (j + n) ∷ []
unfolding numbers
numbers-last f j zero = ap (λ m. f m ∷ []) (omega arith)
numbers-last f j (suc n) = ap (λ l. f j ∷ l) (numbers-last f (j + 1) n ∙ ap (λ m. map f (numbers (j + 1) n) ++ f m ∷ []) (omega arith))

pub put-none : (f : ℕ → Sent) (items : List Sent) → items ≡ items ++ map f (numbers 0 0)
unfolding numbers
put-none f items = sym (append-nil items)
  where
    append-nil : (xs : List Sent) → xs ++ [] ≡ xs
    append-nil [] = refl
    append-nil (x ∷ xs) = ap (λ l. x ∷ l) (append-nil xs)

pub put-more : (f : ℕ → Sent) (start items items' : List Sent) (k : ℕ) (p : Sent) → items ≡ start ++ map f (numbers 0 k) → items' ≡ items ++ p ∷ [] → p ≡ f k → items' ≡ start ++ map f (numbers 0 (k + 1))
put-more f start items items' k p before push is =
    let last : map f (numbers 0 (k + 1)) ≡ map f (numbers 0 k) ++ f k ∷ [] = ap (λ n. map f (numbers 0 n)) (omega arith) ∙ (numbers-last f 0 k ∙ ap (λ m. map f (numbers 0 k) ++ f m ∷ []) (omega arith)) in
    push ∙ (ap₂ (λ xs x. xs ++ x ∷ []) before is ∙ (append_assoc start (map f (numbers 0 k)) (f k ∷ []) ∙ ap (λ xs. start ++ xs) (sym last)))

-- the packets of a unit that is sent by itself are those of the sending, numbered from its first number on
pub alone-is-sent : (programme : Programme) (x : PlacedUnit) (place : Place) → x.unit ≡ place.unit → alone_packets programme x.in_mpu.in_asset x.value place ≡ numbered_packets programme (Sending.Alone place.u x) place.number
unfolding numbered_packet alone_packet packet_of with_number packet_count tick_of_packet id_of rap_of payload_length carried header_length
alone-is-sent programme x place is =
    ap (λ c. map (λ k. record {
      at = record { 0 = x.value.at.0 + k * programme.spacing };
      packet_id = x.in_mpu.in_asset.packet_id;
      number = place.number + k;
      rap = (c == 0) && (k == 0);
      length = 8 + header_length x + part_length x.value.length programme.limit k;
      carries = if parts x.value.length programme.limit == 1 then carries.Whole place.u else carries.Fragment place.u k;
    }) (numbers 0 (parts x.value.length programme.limit))) (sym is)

pub table-ends : (programme : Programme) (s at bytes number k : ℕ) (start items : List Sent) → k ≡ parts bytes programme.limit
    → items ≡ start ++ map (numbered_packet programme (Sending.Table s at bytes) number) (numbers 0 k) → items ≡ start ++ numbered_packets programme (Sending.Table s at bytes) number
unfolding packet_count
table-ends programme s at bytes number k start items is before = before ∙ ap (λ n. start ++ map (numbered_packet programme (Sending.Table s at bytes) number) (numbers 0 n)) is
