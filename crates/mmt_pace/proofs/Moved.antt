-- The packets of a cast at other ticks.
use Rattle.std.proofs.Common.{◌≡◌, ℕ, ◌+◌, ◌<◌, suc, Bool, true, false, ◌==◌, ◌&&◌, inl, inr, cond, List, [], ◌∷◌, length, map, get_or, arith, refl, ap, sym, ◌∙◌, subst, true≢false, ⊎_elim}
use Rattle.std.specs.List.{AllByRecursion, filter}
use Rattle.std.proofs.lemmas.Bool.{and_from, and_parts, eq-eqb, eqb-true}
use Rattle.mmt_cast.proofs.Listing.{IsIn, at-map_from_0, each-from, in-at, in-sort, length-map_from, length-sort}
use Rattle.mmt_cast.proofs.Ordering.{from-sort}
use Rattle.mmt_cast.specs.Casting.{is_sent_before, tick_of_sent}
use Rattle.mmt_cast.specs.Placing.{map_from}
use Rattle.mmt_model.specs.Carrying.{IsPacketAt, place_of}
use Rattle.mmt_model.specs.Sorted.{sort_by}
use Rattle.mmt_model.specs.Survival.{no_packet}
use Rattle.mmt_model.specs.declared.casts.Carries.{Carries}
use Rattle.mmt_model.specs.declared.casts.Sent.{Sent}
use Rattle.mmt_pace.specs.Laws.{AreTold}
use Rattle.mmt_pace.specs.Recast.{at_tick, retimed, ticks_with}

-- the packets at other ticks, in the order of a cast
abbrev pub sorted_at : (ℕ → ℕ) → List Sent → List Sent
sorted_at ticks xs = sort_by is_sent_before (retimed ticks xs)

-- the packet at a place at its new tick
abbrev pub moved : (ℕ → ℕ) → List Sent → ℕ → Sent
moved ticks xs n = at_tick (ticks n) (get_or xs n no_packet)

pub length-retimed : (ticks : ℕ → ℕ) (xs : List Sent) → length (retimed ticks xs) ≡ length xs
unfolding retimed
length-retimed ticks xs = length-map_from (λ n p. at_tick (ticks n) p) 0 xs

pub length-sorted : (ticks : ℕ → ℕ) (xs : List Sent) → length (sorted_at ticks xs) ≡ length xs
length-sorted ticks xs = length-sort is_sent_before (retimed ticks xs) ∙ length-retimed ticks xs

pub at-retimed : (ticks : ℕ → ℕ) (xs : List Sent) (n : ℕ) → n < length xs → get_or (retimed ticks xs) n no_packet ≡ moved ticks xs n
unfolding retimed
at-retimed ticks xs n l = at-map_from_0 (λ n p. at_tick (ticks n) p) xs n no_packet no_packet l

pub moved-in : (ticks : ℕ → ℕ) (xs : List Sent) (n : ℕ) → n < length xs → IsIn (moved ticks xs n) (retimed ticks xs)
moved-in ticks xs n l = subst (λ q. IsIn q (retimed ticks xs)) (at-retimed ticks xs n l) (in-at (retimed ticks xs) n no_packet (omega (arith, l, length-retimed ticks xs)))

from-map_from : {X Y : Type 0} (f : ℕ → X → Y) (n : ℕ) (xs : List X) (d : X) (y : Y) → IsIn y (map_from f n xs) → (j : ℕ) × (j < length xs) × (y ≡ f (n + j) (get_or xs j d))
unfolding map_from
from-map_from f n [] d y i = absurd i
from-map_from f n (x ∷ xs) d y (inl e) = let z : n ≡ n + 0 = omega arith in (0, omega arith, sym e ∙ ap (λ k. f k x) z)
from-map_from f n (x ∷ xs) d y (inr i) =
    let r = from-map_from f (n + 1) xs d y i in
    let s : n + 1 + r.0 ≡ n + suc r.0 = omega arith in
    (suc r.0, omega (arith, r.1), r.2 ∙ ap (λ k. f k (get_or xs r.0 d)) s)

pub from-retimed : (ticks : ℕ → ℕ) (xs : List Sent) (q : Sent) → IsIn q (retimed ticks xs) → (n : ℕ) × (n < length xs) × (q ≡ moved ticks xs n)
unfolding retimed
from-retimed ticks xs q i =
    let r = from-map_from (λ n p. at_tick (ticks n) p) 0 xs no_packet q i in
    let z : 0 + r.0 ≡ r.0 = omega arith in
    (r.0, r.1, r.2 ∙ ap (λ k. at_tick (ticks k) (get_or xs r.0 no_packet)) z)

-- the packet at a place of the sorted ones is one that was moved
pub from-sorted : (ticks : ℕ → ℕ) (xs : List Sent) (n : ℕ) → n < length (sorted_at ticks xs) → (m : ℕ) × (m < length xs) × (get_or (sorted_at ticks xs) n no_packet ≡ moved ticks xs m)
from-sorted ticks xs n l = from-retimed ticks xs (get_or (sorted_at ticks xs) n no_packet) (from-sort is_sent_before (get_or (sorted_at ticks xs) n no_packet) (retimed ticks xs) (in-at (sorted_at ticks xs) n no_packet l))

-- ---- a packet by its packet id and number

found-in : (ys : List Sent) (q : Sent) (i n : ℕ) → q.packet_id ≡ i → q.number ≡ n → IsIn q ys → AllByRecursion (λ y. y.packet_id ≡ i → y.number ≡ n → y ≡ q) ys
    → (place_of ys i n < length ys) × (get_or ys (place_of ys i n) no_packet ≡ q)
unfolding place_of
found-in [] q i n ei en is told = absurd is
found-in (y ∷ ys) q i n ei en is told = go ((y.packet_id == i) && (y.number == n)) refl (found-in ys q i n ei en)
  where
    go : (t : Bool) → ((y.packet_id == i) && (y.number == n)) ≡ t → (IsIn q ys → AllByRecursion (λ y. y.packet_id ≡ i → y.number ≡ n → y ≡ q) ys → (place_of ys i n < length ys) × (get_or ys (place_of ys i n) no_packet ≡ q))
        → (cond t 0 (suc (place_of ys i n)) < suc (length ys)) × (get_or (y ∷ ys) (cond t 0 (suc (place_of ys i n))) no_packet ≡ q)
    go true e ih = (omega arith, (let p = and_parts (y.packet_id == i) (y.number == n) e in told.0 (eqb-true y.packet_id i p.0) (eqb-true y.number n p.1)))
    go false e ih =
        ⊎_elim
        (λ (same : y ≡ q). absurd (true≢false (sym (and_from (y.packet_id == i) (y.number == n) (eq-eqb y.packet_id i (ap (λ (z : Sent). z.packet_id) same ∙ ei)) (eq-eqb y.number n (ap (λ (z : Sent). z.number) same ∙ en))) ∙ e)))
        (λ (later : IsIn q ys). (let r = ih later told.1 in (omega (arith, r.0), r.1)))
        is

told-one : (ticks : ℕ → ℕ) (xs : List Sent) (n : ℕ) → AreTold xs → n < length xs → (y : Sent) → IsIn y (sorted_at ticks xs) → y.packet_id ≡ (get_or xs n no_packet).packet_id → y.number ≡ (get_or xs n no_packet).number → y ≡ moved ticks xs n
told-one ticks xs n told l y i ei en =
    let r = from-retimed ticks xs y (from-sort is_sent_before y (retimed ticks xs) i) in
    let same : r.0 ≡ n = told r.0 n r.1 l (sym (ap (λ (z : Sent). z.packet_id) r.2) ∙ ei) (sym (ap (λ (z : Sent). z.number) r.2) ∙ en) in
    r.2 ∙ ap (moved ticks xs) same

-- a packet of the cast is found at its new tick by its packet id and number
pub record IsMovedTo (ticks : ℕ → ℕ) (xs : List Sent) (n i number : ℕ) : Type 0 where
  pub of : place_of (sorted_at ticks xs) i number < length (sorted_at ticks xs)
  pub at : get_or (sorted_at ticks xs) (place_of (sorted_at ticks xs) i number) no_packet ≡ moved ticks xs n

pub moved-to : (ticks : ℕ → ℕ) (xs : List Sent) (n i number : ℕ) → AreTold xs → IsPacketAt xs n i number → IsMovedTo ticks xs n i number
moved-to ticks xs n i number told p =
    let r = found-in (sorted_at ticks xs) (moved ticks xs n) i number p.has_id p.has_number (in-sort is_sent_before (moved ticks xs n) (retimed ticks xs) (moved-in ticks xs n p.of))
    (each-from (λ (y : Sent). y.packet_id ≡ i → y.number ≡ number → y ≡ moved ticks xs n) (sorted_at ticks xs) (λ y is ei en. told-one ticks xs n told p.of y is (ei ∙ sym p.has_id) (en ∙ sym p.has_number))) in
    record { of = r.0; at = r.1 }

-- ---- the timestamps of the packets that carry something

pub ticks-in : (has : Carries → Bool) (ps : List Sent) (q : Sent) → IsIn q ps → has q.carries ≡ true → IsIn q.at.0 (ticks_with has ps)
unfolding ticks_with
ticks-in has [] q i t = absurd i
ticks-in has (p ∷ ps) q i t = go (has p.carries) refl i (ticks-in has ps q)
  where
    go : (b : Bool) → has p.carries ≡ b → IsIn q (p ∷ ps) → (IsIn q ps → has q.carries ≡ true → IsIn q.at.0 (map tick_of_sent (filter (λ p. has p.carries) ps))) → IsIn q.at.0 (map tick_of_sent (cond b (p ∷ filter (λ p. has p.carries) ps) (filter (λ p. has p.carries) ps)))
    go true e (inl same) ih = inl (ap (λ (z : Sent). z.at.0) same)
    go true e (inr later) ih = inr (ih later t)
    go false e (inl same) ih = absurd (true≢false (sym t ∙ (sym (ap (λ (z : Sent). has z.carries) same) ∙ e)))
    go false e (inr later) ih = ih later t

pub from-ticks : (has : Carries → Bool) (ps : List Sent) (z : ℕ) → IsIn z (ticks_with has ps) → (q : Sent) × IsIn q ps × (has q.carries ≡ true) × (q.at.0 ≡ z)
unfolding ticks_with
from-ticks has [] z i = absurd i
from-ticks has (p ∷ ps) z i = go (has p.carries) refl i (from-ticks has ps z)
  where
    go : (b : Bool) → has p.carries ≡ b → IsIn z (map tick_of_sent (cond b (p ∷ filter (λ p. has p.carries) ps) (filter (λ p. has p.carries) ps)))
        → (IsIn z (map tick_of_sent (filter (λ p. has p.carries) ps)) → (q : Sent) × IsIn q ps × (has q.carries ≡ true) × (q.at.0 ≡ z)) → (q : Sent) × IsIn q (p ∷ ps) × (has q.carries ≡ true) × (q.at.0 ≡ z)
    go true e (inl same) ih = (p, inl refl, e, same)
    go true e (inr later) ih = let r = ih later in (r.0, inr r.1, r.2, r.3)
    go false e later ih = let r = ih later in (r.0, inr r.1, r.2, r.3)
