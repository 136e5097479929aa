-- The span of a sending's packets, by their places in the cast.
use Rattle.std.proofs.Common.{◌≡◌, ℕ, ◌+◌, ◌≤◌, zero, suc, List, [], ◌∷◌, ◌++◌, map, get_or, min, max, arith, refl, ap, sym, ◌∙◌}
use Rattle.std.proofs.lemmas.List.{length-map}
use Rattle.mmt_cast.proofs.Found.{found}
use Rattle.mmt_cast.proofs.Listing.{map-map, map-numbers-shift, same-map_numbers}
use Rattle.mmt_frag.proofs.PartsJoined.{length-numbers}
use Rattle.mmt_cast.proofs.Numbering.{before, packet_after, piece}
use Rattle.mmt_cast.specs.Casting.{cast_of, greatest, least, span_of, tick_of_sent, with_number}
use Rattle.mmt_cast.specs.Sending.{Sending, id_of, packet_count, sendings}
use Rattle.mmt_model.specs.Carrying.{first_of_places, last_of_places, numbers, place_of}
use Rattle.mmt_model.specs.Survival.{no_packet, sent_at}
use Rattle.mmt_model.specs.declared.casts.Sent.{Sent}
use Rattle.mmt_model.specs.declared.programmes.Programme.{Programme}

first-least : (packets : List Sent) (ns : List ℕ) → first_of_places packets ns ≡ least (map (sent_at packets) ns)
unfolding first_of_places least
first-least packets [] = refl
first-least packets (n ∷ []) = refl
first-least packets (n ∷ m ∷ ns) = ap (min (sent_at packets n)) (first-least packets (m ∷ ns))

last-greatest : (packets : List Sent) (ns : List ℕ) → last_of_places packets ns ≡ greatest (map (sent_at packets) ns)
unfolding last_of_places greatest
last-greatest packets [] = refl
last-greatest packets (n ∷ ns) = ap (max (sent_at packets n)) (last-greatest packets ns)

-- the places in the cast of a sending's packets
abbrev pub places : Programme → Sending → ℕ → List ℕ
places programme x c = map (place_of (cast_of programme).packets (id_of x)) (numbers c (packet_count programme x))

ticks : (programme : Programme) (a b : List Sending) (x : Sending) → sendings programme ≡ a ++ x ∷ b
    → map (sent_at (cast_of programme).packets) (places programme x (before programme a x)) ≡ map tick_of_sent (piece programme x (before programme a x))
unfolding sent_at
ticks programme a b x e =
    let c : ℕ = before programme a x in
    let n : ℕ = packet_count programme x in
    let packets : List Sent = (cast_of programme).packets in
    let z : c ≡ c + 0 = omega arith in
    ap (λ j. map (sent_at packets) (map (place_of packets (id_of x)) (numbers j n))) z
    ∙ (ap (map (sent_at packets)) (map-numbers-shift (place_of packets (id_of x)) c 0 n)
    ∙ (map-map (sent_at packets) (λ k. place_of packets (id_of x) (c + k)) (numbers 0 n)
    ∙ (same-map_numbers (λ k. sent_at packets (place_of packets (id_of x) (c + k))) (λ k. tick_of_sent (packet_after programme x c k)) 0 n
    (λ k from below. ap tick_of_sent (found programme a b x k e (omega arith)).at)
    ∙ sym (map-map tick_of_sent (packet_after programme x c) (numbers 0 n)))))

-- the span of a sending's packets
pub record IsSpanned (programme : Programme) (x : Sending) (c : ℕ) : Type 0 where
  pub count : (span_of (piece programme x c)).count ≡ packet_count programme x
  pub first_number : 1 ≤ packet_count programme x → (span_of (piece programme x c)).first_number ≡ c
  pub first : (span_of (piece programme x c)).first.0 ≡ first_of_places (cast_of programme).packets (places programme x c)
  pub last : (span_of (piece programme x c)).last.0 ≡ last_of_places (cast_of programme).packets (places programme x c)

first-number : (programme : Programme) (x : Sending) (c n : ℕ) → 1 ≤ n → (get_or (map (packet_after programme x c) (numbers 0 n)) 0 no_packet).number ≡ c
unfolding numbers with_number
first-number programme x c zero l = absurd (omega arith)
first-number programme x c (suc n) l = omega arith

pub spanned : (programme : Programme) (a b : List Sending) (x : Sending) → sendings programme ≡ a ++ x ∷ b → IsSpanned programme x (before programme a x)
unfolding span_of
spanned programme a b x e =
    let c : ℕ = before programme a x in
    record {
      count = length-map (numbers 0 (packet_count programme x)) (packet_after programme x c) ∙ length-numbers 0 (packet_count programme x);
      first_number = λ l. first-number programme x c (packet_count programme x) l;
      first = sym (first-least (cast_of programme).packets (places programme x c) ∙ ap least (ticks programme a b x e));
      last = sym (last-greatest (cast_of programme).packets (places programme x c) ∙ ap greatest (ticks programme a b x e));
    }
