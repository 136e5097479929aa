-- The packets of a sending are found in the cast by its packet id and their numbers.
use Rattle.std.proofs.Common.{◌≡◌, ℕ, ◌+◌, ◌<◌, ◌≤◌, suc, Bool, true, false, ◌==◌, ◌&&◌, cond, List, [], ◌∷◌, ◌++◌, length, get_or, arith, refl, ap, sym, ◌∙◌, ⊎_elim, true≢false}
use Rattle.std.specs.List.{AllByRecursion}
use Rattle.std.proofs.lemmas.Bool.{and_from, and_parts, eq-eqb, eqb-true}
use Rattle.std.proofs.lemmas.List.{length-append, length-map}
use Rattle.mmt_cast.proofs.Listing.{IsIn, each-sort, in-sort}
use Rattle.mmt_frag.proofs.PartsJoined.{length-numbers}
use Rattle.mmt_cast.proofs.Numbering.{IsTold, before, count-le-length, each-planned, flat, is-planned, is-told, length-numbered, packet_after, piece, planned-split}
use Rattle.mmt_cast.specs.Casting.{cast_of, is_sent_before, numbered_after, planned, with_number}
use Rattle.mmt_cast.specs.Sending.{Sending, id_of, packet_count, packet_of, packets_of, sendings}
use Rattle.mmt_model.specs.Carrying.{numbers, place_of}
use Rattle.mmt_model.specs.Survival.{no_packet}
use Rattle.mmt_model.specs.declared.casts.Sent.{Sent}
use Rattle.mmt_model.specs.declared.programmes.Programme.{Programme}

found-in : (ys : List Sent) (q : Sent) (i n : ℕ) → q.packet_id ≡ i → q.number ≡ n → IsIn q ys → AllByRecursion (λ y. y.packet_id ≡ i → y.number ≡ n → y ≡ q) ys
    → (place_of ys i n < length ys) × (get_or ys (place_of ys i n) no_packet ≡ q)
unfolding place_of
found-in [] q i n ei en is told = absurd is
found-in (y ∷ ys) q i n ei en is told = go ((y.packet_id == i) && (y.number == n)) refl (found-in ys q i n ei en)
  where
    go : (t : Bool) → ((y.packet_id == i) && (y.number == n)) ≡ t → (IsIn q ys → AllByRecursion (λ y. y.packet_id ≡ i → y.number ≡ n → y ≡ q) ys → (place_of ys i n < length ys) × (get_or ys (place_of ys i n) no_packet ≡ q))
        → (cond t 0 (suc (place_of ys i n)) < suc (length ys)) × (get_or (y ∷ ys) (cond t 0 (suc (place_of ys i n))) no_packet ≡ q)
    go true e ih = (omega arith, (let p = and_parts (y.packet_id == i) (y.number == n) e in told.0 (eqb-true y.packet_id i p.0) (eqb-true y.number n p.1)))
    go false e ih =
        ⊎_elim
        (λ (same : y ≡ q). absurd (true≢false (sym (and_from (y.packet_id == i) (y.number == n) (eq-eqb y.packet_id i (ap (λ (z : Sent). z.packet_id) same ∙ ei)) (eq-eqb y.number n (ap (λ (z : Sent). z.number) same ∙ en))) ∙ e)))
        (λ (later : IsIn q ys). (let r = ih later told.1 in (omega (arith, r.0), r.1)))
        is

-- where a packet of a sending is found
pub record IsFound (programme : Programme) (x : Sending) (c k : ℕ) : Type 0 where
  pub of : place_of (cast_of programme).packets (id_of x) (c + k) < length (cast_of programme).packets
  pub at : get_or (cast_of programme).packets (place_of (cast_of programme).packets (id_of x) (c + k)) no_packet ≡ packet_after programme x c k

pub found : (programme : Programme) (a b : List Sending) (x : Sending) (k : ℕ) → sendings programme ≡ a ++ x ∷ b → k < packet_count programme x → IsFound programme x (before programme a x) k
unfolding cast_of with_number packet_of
found programme a b x k e l =
    let c : ℕ = before programme a x in
    let r = found-in (cast_of programme).packets (packet_after programme x c k) (id_of x) (c + k) refl refl
    (in-sort is_sent_before (packet_after programme x c k) (planned programme) (is-planned programme a b x k e l))
    (each-sort (IsTold programme x c k) is_sent_before (planned programme) (is-told programme a b x k e l)) in
    record { of = r.0; at = r.1 }

-- what holds of each packet of each sending holds of each packet of the cast
pub each-sent : (programme : Programme) (P : Sent → Type 0)
    → ((a b : List Sending) (x : Sending) (k : ℕ) → sendings programme ≡ a ++ x ∷ b → k < packet_count programme x → P (packet_after programme x (before programme a x) k))
    → AllByRecursion P (cast_of programme).packets
unfolding cast_of
each-sent programme P h = each-sort P is_sent_before (planned programme) (each-planned programme P h)

-- a number and what follows it is no more than the packets
pub numbers-fit : (programme : Programme) (a b : List Sending) (x : Sending) → sendings programme ≡ a ++ x ∷ b → before programme a x + packet_count programme x ≤ length (planned programme)
numbers-fit programme a b x e =
    let front : List Sent = flat programme a in
    let c : ℕ = before programme a x in
    let own : List Sent = piece programme x c in
    let rest : List Sent = numbered_after (front ++ packets_of programme x) (flat programme b) in
    let s = ap length (planned-split programme a b x e) in
    omega (
      arith,
      s,
      length-append (numbered_after [] front) (own ++ rest),
      length-append own rest,
      length-numbered [] front,
      count-le-length (id_of x) front,
      length-map (numbers 0 (packet_count programme x)) (packet_after programme x c),
      length-numbers 0 (packet_count programme x),
    )
