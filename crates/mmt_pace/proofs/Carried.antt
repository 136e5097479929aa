-- What packets carry goes with their packet ids and numbers, whatever their ticks.
use Rattle.std.proofs.Common.{◌≡◌, ℕ, ◌+◌, ◌<◌, ◌≤◌, suc, zero, min, max, Bool, true, ◌==◌, ◌&&◌, nat_le, nat_lt, inl, inr, List, [], ◌∷◌, length, map, get_or, arith, refl, ap, sym, ◌∙◌, subst}
use Rattle.std.proofs.lemmas.Bool.{and_parts, eqb-true, leb-true, ltb-true}
use Rattle.mmt_cast.proofs.Listing.{IsIn, in-map_numbers, map-map}
use Rattle.mmt_cast.specs.Casting.{greatest, has_table, has_unit, least}
use Rattle.mmt_model.specs.Carrying.{Contents, IsInItsPlace, IsPacketAt, copy_place, entry_of_unit, first_of_places, has_part, has_table_part, last_of_places, numbers, place_of, sent_unit, table_copy}
use Rattle.mmt_model.specs.Survival.{no_packet, sent_at}
use Rattle.mmt_model.specs.declared.casts.Carries.{Carries}
use Rattle.mmt_model.specs.declared.casts.Carries.TheVariants as carries
use Rattle.mmt_model.specs.declared.casts.Cast.{Cast}
use Rattle.mmt_model.specs.declared.casts.Sent.{Sent}
use Rattle.mmt_pace.proofs.Minima.{same-greatest, same-least}
use Rattle.mmt_pace.proofs.Moved.{from-retimed, from-ticks, moved, moved-in, moved-to, sorted_at, ticks-in}
use Rattle.mmt_pace.proofs.Reading.{copies-many, copy-count, copy-number, copy-places, entry-is, mpu-of-is, unit-count, unit-number, units-many}
use Rattle.mmt_pace.specs.Laws.{AreTold}
use Rattle.mmt_pace.specs.Recast.{recast, retimed, ticks_with}

-- ---- in its place

pub still-placed : (ticks : ℕ → ℕ) (cast : Cast) (contents : Contents) (i n : ℕ) (x : Carries) → IsInItsPlace cast contents i n x → IsInItsPlace (recast ticks cast) contents i n x
still-placed ticks cast contents i n (carries.Whole u) p =
    (omega (arith, p.0, units-many ticks cast), p.1 ∙ sym (ap (λ e. e.packet_id) (entry-is ticks cast contents u p.0)), p.2 ∙ sym (unit-number ticks cast u p.0), unit-count ticks cast u p.0 ∙ p.3)
still-placed ticks cast contents i n (carries.Fragment u k) p = (
  omega (arith, p.0, units-many ticks cast),
  p.1 ∙ sym (ap (λ e. e.packet_id) (entry-is ticks cast contents u p.0)),
  omega (arith, p.2, unit-number ticks cast u p.0),
  omega (arith, p.3, unit-count ticks cast u p.0),
  omega (arith, p.4, unit-count ticks cast u p.0),
)
still-placed ticks cast contents i n (carries.Group f c) p = (
  omega (arith, p.0, units-many ticks cast),
  (λ u from below.
      (let q = p.1 u from below in
      let lu : u < length cast.units = omega (arith, p.0, below) in
      let lf : f < length cast.units = omega (arith, p.0, from, below) in (
        q.0 ∙ sym (ap (λ e. e.packet_id) (entry-is ticks cast contents u lu)),
        q.1 ∙ sym (unit-number ticks cast u lu),
        unit-count ticks cast u lu ∙ q.2,
        q.3,
        mpu-of-is ticks cast u lu ∙ (q.4 ∙ sym (mpu-of-is ticks cast f lf)),
      ))),
)
still-placed ticks cast contents i n (carries.Parameters s) p = tt
still-placed ticks cast contents i n (carries.Table s) p =
    let e : copy_place (recast ticks cast).copies s ≡ copy_place cast.copies s = copy-places ticks cast s in
    let c : ℕ = copy_place cast.copies s in (
      omega (arith, p.0, e, copies-many ticks cast),
      p.1,
      p.2 ∙ (sym (copy-number ticks cast c p.0) ∙ sym (ap (λ j. (table_copy (recast ticks cast) j).first_number) e)),
      ap (λ j. (table_copy (recast ticks cast) j).count) e ∙ (copy-count ticks cast c p.0 ∙ p.3),
    )
still-placed ticks cast contents i n (carries.TablePart s k) p =
    let e : copy_place (recast ticks cast).copies s ≡ copy_place cast.copies s = copy-places ticks cast s in
    let c : ℕ = copy_place cast.copies s in
    let number : (table_copy (recast ticks cast) (copy_place (recast ticks cast).copies s)).first_number ≡ (table_copy cast c).first_number = ap (λ j. (table_copy (recast ticks cast) j).first_number) e ∙ copy-number ticks cast c p.0 in
    let count : (table_copy (recast ticks cast) (copy_place (recast ticks cast).copies s)).count ≡ (table_copy cast c).count = ap (λ j. (table_copy (recast ticks cast) j).count) e ∙ copy-count ticks cast c p.0 in
    (omega (arith, p.0, e, copies-many ticks cast), p.1, omega (arith, p.2, number), omega (arith, p.3, count), omega (arith, p.4, count))

-- ---- whose packets they are

-- the packets that carry something have one packet id and the numbers from one on
pub record AreItsPackets (has : Carries → Bool) (xs : List Sent) (i first count : ℕ) : Type 0 where
  pub all : (n : ℕ) → n < length xs → has (get_or xs n no_packet).carries ≡ true → (k : ℕ) × (k < count) × ((get_or xs n no_packet).packet_id ≡ i) × ((get_or xs n no_packet).number ≡ first + k)
  pub each : (k : ℕ) → k < count → (n : ℕ) × IsPacketAt xs n i (first + k) × (has (get_or xs n no_packet).carries ≡ true)

from-numbers : (f : ℕ → ℕ) (z first count : ℕ) → IsIn z (map f (numbers first count)) → (k : ℕ) × (k < count) × (f (first + k) ≡ z)
unfolding numbers
from-numbers f z first zero is = absurd is
from-numbers f z first (suc count) (inl e) = let y : first + 0 ≡ first = omega arith in (0, omega arith, ap f y ∙ e)
from-numbers f z first (suc count) (inr is) =
    let r = from-numbers f z (first + 1) count is in
    let y : first + suc r.0 ≡ first + 1 + r.0 = omega arith in
    (suc r.0, omega (arith, r.1), ap f y ∙ r.2)

first-least : (packets : List Sent) (ns : List ℕ) → first_of_places packets ns ≡ least (map (sent_at packets) ns)
unfolding first_of_places least
first-least packets [] = refl
first-least packets (n ∷ []) = refl
first-least packets (n ∷ m ∷ ns) = ap (min (sent_at packets n)) (first-least packets (m ∷ ns))

last-greatest : (packets : List Sent) (ns : List ℕ) → last_of_places packets ns ≡ greatest (map (sent_at packets) ns)
unfolding last_of_places greatest
last-greatest packets [] = refl
last-greatest packets (n ∷ ns) = ap (max (sent_at packets n)) (last-greatest packets ns)

-- their new ticks are those at their places in the new order
module _ (ticks : ℕ → ℕ) (has : Carries → Bool) (xs : List Sent) (i first count : ℕ) (told : AreTold xs) (its : AreItsPackets has xs i first count) where
  abbrev pub their-ticks : List ℕ
  their-ticks = map (sent_at (sorted_at ticks xs)) (map (place_of (sorted_at ticks xs) i) (numbers first count))

  tick-at : (n k : ℕ) → IsPacketAt xs n i (first + k) → sent_at (sorted_at ticks xs) (place_of (sorted_at ticks xs) i (first + k)) ≡ ticks n
  unfolding sent_at
  tick-at n k p = ap (λ (q : Sent). q.at.0) (moved-to ticks xs n i (first + k) told p).at

  their-map : their-ticks ≡ map (λ n. sent_at (sorted_at ticks xs) (place_of (sorted_at ticks xs) i n)) (numbers first count)
  their-map = map-map (sent_at (sorted_at ticks xs)) (place_of (sorted_at ticks xs) i) (numbers first count)

  pub ticks-there : (z : ℕ) → IsIn z (ticks_with has (retimed ticks xs)) → IsIn z their-ticks
  ticks-there z is =
      let t = from-ticks has (retimed ticks xs) z is in
      let r = from-retimed ticks xs t.0 t.1 in
      let a = its.all r.0 r.1 (sym (ap (λ (q : Sent). has q.carries) r.2) ∙ t.2) in
      let p : IsPacketAt xs r.0 i (first + a.0) = record { of = r.1; has_id = a.2; has_number = a.3 } in
      let e : sent_at (sorted_at ticks xs) (place_of (sorted_at ticks xs) i (first + a.0)) ≡ z = tick-at r.0 a.0 p ∙ (sym (ap (λ (q : Sent). q.at.0) r.2) ∙ t.3) in
      subst (IsIn z) (sym their-map) (subst (λ y. IsIn y (map (λ n. sent_at (sorted_at ticks xs) (place_of (sorted_at ticks xs) i n)) (numbers first count))) e (in-map_numbers (λ n. sent_at (sorted_at ticks xs) (place_of (sorted_at ticks xs) i n)) first count (first + a.0) (omega arith) (omega (arith, a.1))))

  pub ticks-here : (z : ℕ) → IsIn z their-ticks → IsIn z (ticks_with has (retimed ticks xs))
  ticks-here z is =
      let k = from-numbers (λ n. sent_at (sorted_at ticks xs) (place_of (sorted_at ticks xs) i n)) z first count (subst (IsIn z) their-map is) in
      let n = its.each k.0 k.1 in
      let e : ticks n.0 ≡ z = sym (tick-at n.0 k.0 n.1) ∙ k.2 in
      subst (λ y. IsIn y (ticks_with has (retimed ticks xs))) e (ticks-in has (retimed ticks xs) (moved ticks xs n.0) (moved-in ticks xs n.0 n.1.of) n.2)

  pub first-there : least (ticks_with has (retimed ticks xs)) ≡ first_of_places (sorted_at ticks xs) (map (place_of (sorted_at ticks xs) i) (numbers first count))
  first-there = same-least (ticks_with has (retimed ticks xs)) their-ticks ticks-there ticks-here ∙ sym (first-least (sorted_at ticks xs) (map (place_of (sorted_at ticks xs) i) (numbers first count)))

  pub last-there : greatest (ticks_with has (retimed ticks xs)) ≡ last_of_places (sorted_at ticks xs) (map (place_of (sorted_at ticks xs) i) (numbers first count))
  last-there = same-greatest (ticks_with has (retimed ticks xs)) their-ticks ticks-there ticks-here ∙ sym (last-greatest (sorted_at ticks xs) (map (place_of (sorted_at ticks xs) i) (numbers first count)))

-- ---- units

pub part-has : (u k : ℕ) (x : Carries) → has_part u k x ≡ true → has_unit u x ≡ true
unfolding has_part has_unit
part-has u k (carries.Whole v) h = (and_parts (v == u) (k == 0) h).0
part-has u k (carries.Fragment v j) h = (and_parts (v == u) (k == j) h).0
part-has u k (carries.Group f c) h = (and_parts (nat_le f u && nat_lt u (f + c)) (k == 0) h).0
part-has u k (carries.Parameters s) h = absurd cc
part-has u k (carries.Table s) h = absurd cc
part-has u k (carries.TablePart s j) h = absurd cc

-- a packet that carries a unit has the unit's packet id and one of its numbers
pub unit-packet : (cast : Cast) (contents : Contents) (u i number : ℕ) (x : Carries) → IsInItsPlace cast contents i number x → has_unit u x ≡ true
    → (k : ℕ) × (k < (sent_unit cast u).count) × (i ≡ (entry_of_unit cast contents u).packet_id) × (number ≡ (sent_unit cast u).first_number + k)
unfolding has_unit
unit-packet cast contents u i number (carries.Whole v) p h =
    let e : v ≡ u = eqb-true v u h in
    let q = subst (λ w. (w < length cast.units) × (i ≡ (entry_of_unit cast contents w).packet_id) × (number ≡ (sent_unit cast w).first_number) × ((sent_unit cast w).count ≡ 1)) e p in
    (0, omega (arith, q.3), q.1, omega (arith, q.2))
unit-packet cast contents u i number (carries.Fragment v k) p h =
    let e : v ≡ u = eqb-true v u h in
    let q = subst (λ w. (w < length cast.units) × (i ≡ (entry_of_unit cast contents w).packet_id) × (number ≡ (sent_unit cast w).first_number + k) × (k < (sent_unit cast w).count) × (2 ≤ (sent_unit cast w).count)) e p in
    (k, q.3, q.1, q.2)
unit-packet cast contents u i number (carries.Group f c) p h =
    let a = and_parts (nat_le f u) (nat_lt u (f + c)) h in
    let q = p.1 u (leb-true f u a.0) (ltb-true u (f + c) a.1) in
    (0, omega (arith, q.2), q.0, omega (arith, q.1))
unit-packet cast contents u i number (carries.Parameters s) p h = absurd cc
unit-packet cast contents u i number (carries.Table s) p h = absurd cc
unit-packet cast contents u i number (carries.TablePart s j) p h = absurd cc

-- ---- table copies

pub table-part-has : (s k : ℕ) (x : Carries) → has_table_part s k x ≡ true → has_table s x ≡ true
unfolding has_table_part has_table
table-part-has s k (carries.Table t) h = (and_parts (t == s) (k == 0) h).0
table-part-has s k (carries.TablePart t j) h = (and_parts (t == s) (k == j) h).0
table-part-has s k (carries.Whole u) h = absurd cc
table-part-has s k (carries.Fragment u j) h = absurd cc
table-part-has s k (carries.Group f c) h = absurd cc
table-part-has s k (carries.Parameters t) h = absurd cc

-- a packet that carries a table copy has packet id 0 and one of its numbers
pub copy-packet : (cast : Cast) (contents : Contents) (c i number : ℕ) (x : Carries) → IsInItsPlace cast contents i number x → has_table (table_copy cast c).signal x ≡ true → copy_place cast.copies (table_copy cast c).signal ≡ c
    → (k : ℕ) × (k < (table_copy cast c).count) × (i ≡ 0) × (number ≡ (table_copy cast c).first_number + k)
unfolding has_table
copy-packet cast contents c i number (carries.Table s) p h own =
    let e : copy_place cast.copies s ≡ c = ap (copy_place cast.copies) (eqb-true s (table_copy cast c).signal h) ∙ own in
    let q = subst (λ d. (d < length cast.copies) × (i ≡ 0) × (number ≡ (table_copy cast d).first_number) × ((table_copy cast d).count ≡ 1)) e p in
    (0, omega (arith, q.3), q.1, omega (arith, q.2))
copy-packet cast contents c i number (carries.TablePart s k) p h own =
    let e : copy_place cast.copies s ≡ c = ap (copy_place cast.copies) (eqb-true s (table_copy cast c).signal h) ∙ own in
    let q = subst (λ d. (d < length cast.copies) × (i ≡ 0) × (number ≡ (table_copy cast d).first_number + k) × (k < (table_copy cast d).count) × (2 ≤ (table_copy cast d).count)) e p in
    (k, q.3, q.1, q.2)
copy-packet cast contents c i number (carries.Whole u) p h own = absurd cc
copy-packet cast contents c i number (carries.Fragment u j) p h own = absurd cc
copy-packet cast contents c i number (carries.Group f n) p h own = absurd cc
copy-packet cast contents c i number (carries.Parameters t) p h own = absurd cc
