-- A layout cuts its units as the receiver joins them.
use Rattle.std.proofs.Common.{◌≡◌, ℕ, ◌+◌, ◌<◌, ◌≤◌, zero, suc, Bool, true, false, ◌&&◌, ◌==◌, nat_lt, nat_le, cond, List, [], ◌∷◌, map, length, get_or, arith, refl, ap, ap₂, sym, ◌∙◌, ⊎_elim, subst, true≢false}
use Rattle.std.proofs.lemmas.Bool.Decides.{nat_tests}
use Rattle.std.proofs.lemmas.Bool.{cases_eq, eq-eqb, eqb-true, ne_eqb, and_parts, and_from, ltb-true, leb-true, lt-ltb, le-ltb, le-leb, lt-leb, cases_lt}
use Rattle.std.specs.List.{AllByRecursion}
use Rattle.mmt_delivery.proofs.Cutting.{BeginsWith, IsAt, IsChain, IsCut, IsFragmented, first_of, payload_of}
use Rattle.mmt_delivery.proofs.Finding.{IsApart}
use Rattle.mmt_delivery.proofs.Laid.{Holding, IsLaid, IsLaidUnit, IsPlaced, Layout, holds_part, payload_by, place_among, starts_by}
use Rattle.mmt_delivery.proofs.Telling.{next_number-low}
use Rattle.mmt_delivery.proofs.Tests.{same_tests}
use Rattle.mmt_model.specs.Broadcast.{Broadcast, unit_of}
use Rattle.mmt_model.specs.Carrying.{numbers, place_of, role}
use Rattle.mmt_model.specs.Counts.{as_number, occurrences}
use Rattle.mmt_model.specs.Packets.{DataUnit, Payload}
use Rattle.mmt_model.specs.Survival.{heard_of, no_packet}
use Rattle.mmt_model.specs.Units.{Link, joined, media_link, next_number, same_flag, unit_from, whole_units}
use Rattle.mmt_model.specs.declared.keys.Part.TheVariants as parts

-- what a packet that has a part of a unit says of its packet id and number
pub record IsPartOf (broadcast : Broadcast) (l : Layout) (packet_id number u k : ℕ) : Type 0 where
  pub below : u < length broadcast.units
  pub same_id : packet_id ≡ l.packet_id u
  pub same_number : number ≡ l.first u + k

right_part : (broadcast : Broadcast) (l : Layout) (packet_id number u k : ℕ) (c : Holding) → IsPlaced broadcast l packet_id number c → holds_part u k c ≡ true → IsPartOf broadcast l packet_id number u k
unfolding holds_part
right_part broadcast l packet_id number u k (Holding.Whole v) r h =
    let p = and_parts (v == u) (k == 0) h in
    let e : v ≡ u = eqb-true v u p.0 in
    let z : k ≡ 0 = eqb-true k 0 p.1 in
    record { below = omega (arith, r.0, e); same_id = r.1 ∙ ap l.packet_id e; same_number = omega (arith, r.2, ap l.first e, z) }
right_part broadcast l packet_id number u k (Holding.Fragment v j) r h =
    let p = and_parts (v == u) (k == j) h in
    let e : v ≡ u = eqb-true v u p.0 in
    let z : k ≡ j = eqb-true k j p.1 in
    record { below = omega (arith, r.0, e); same_id = r.1 ∙ ap l.packet_id e; same_number = omega (arith, r.2, ap l.first e, z) }
right_part broadcast l packet_id number u k (Holding.Group f c) r h =
    let p = and_parts (nat_le f u && nat_lt u (f + c)) (k == 0) h in
    let q = and_parts (nat_le f u) (nat_lt u (f + c)) p.0 in
    let ge = leb-true f u q.0 in
    let lt = ltb-true u (f + c) q.1 in
    let s = r.1 u ge lt in
    let z : k ≡ 0 = eqb-true k 0 p.1 in
    record { below = omega (arith, r.0, lt); same_id = s.0; same_number = omega (arith, s.1, z) }
right_part broadcast l packet_id number u k (Holding.Parameters bytes) r h = absurd (true≢false (sym h))
right_part broadcast l packet_id number u k (Holding.Table c) r h = absurd (true≢false (sym h))
right_part broadcast l packet_id number u k (Holding.TablePart c j) r h = absurd (true≢false (sym h))

occurrences-numbers : (u f c : ℕ) → occurrences u (numbers f c) ≡ as_number (nat_le f u && nat_lt u (f + c))
unfolding numbers
occurrences-numbers u f zero = ⊎_elim
    (λ (lt : u < f). sym (ap as_number (ap (λ b. b && nat_lt u (f + 0)) (lt-leb f u lt))))
    (λ (ge : f ≤ u). sym (ap as_number (ap₂ (λ a b. a && b) (le-leb f u ge) (le-ltb u (f + 0) (omega arith)))))
    (cases_lt u f)
occurrences-numbers u f (suc c) =
    ⊎_elim
    (λ (e : f ≡ u). omega (
      arith,
      occurrences-numbers u (f + 1) c,
      ap as_number (eq-eqb f u e),
      ap as_number (ap (λ b. b && nat_lt u (f + 1 + c)) (lt-leb (f + 1) u (omega arith))),
      ap as_number (ap₂ (λ a b. a && b) (le-leb f u (omega arith)) (lt-ltb u (f + suc c) (omega arith))),
    ))
    (λ (ne : f ≡ u → ⊥).
    let same : (nat_le (f + 1) u && nat_lt u (f + 1 + c)) ≡ (nat_le f u && nat_lt u (f + suc c)) = grind (arith, nat_tests) in
    omega (arith, occurrences-numbers u (f + 1) c, ap as_number (ne_eqb f u ne), ap as_number same))
    (cases_eq f u)

occurrences-starts : (u : ℕ) (c : Holding) → occurrences u (starts_by c) ≡ as_number (holds_part u 0 c)
unfolding starts_by holds_part
occurrences-starts u (Holding.Whole v) = go (v == u)
  where
    go : (b : Bool) → as_number b + 0 ≡ as_number (b && true)
    go true = refl
    go false = refl
occurrences-starts u (Holding.Fragment v zero) = go (v == u)
  where
    go : (b : Bool) → as_number b + 0 ≡ as_number (b && true)
    go true = refl
    go false = refl
occurrences-starts u (Holding.Fragment v (suc k)) = ap as_number (sym (go (v == u)) ∙ ap (λ b. (v == u) && b) (sym (ne_eqb 0 (suc k) (omega arith))))
  where
    go : (b : Bool) → (b && false) ≡ false
    go true = refl
    go false = refl
occurrences-starts u (Holding.Group f c) = occurrences-numbers u f c ∙ ap as_number (go (nat_le f u && nat_lt u (f + c)))
  where
    go : (b : Bool) → b ≡ (b && true)
    go true = refl
    go false = refl
occurrences-starts u (Holding.Parameters bytes) = refl
occurrences-starts u (Holding.Table c) = refl
occurrences-starts u (Holding.TablePart c k) = refl

first_member : (broadcast : Broadcast) (l : Layout) (u : ℕ) → IsLaidUnit broadcast l u → first_of (unit_of broadcast u).members ≡ place_of broadcast.cast.packets.sent (l.packet_id u) (l.first u)
first_member broadcast l u laid = ap first_of laid.members ∙ go (l.count u) laid.some
  where
    go : (c : ℕ) → 1 ≤ c → first_of (map (place_of broadcast.cast.packets.sent (l.packet_id u)) (numbers (l.first u) c)) ≡ place_of broadcast.cast.packets.sent (l.packet_id u) (l.first u)
    go zero h = absurd (omega arith)
    go (suc c) h = unfold numbers in refl

-- the packet with part k of a unit
place-part : (broadcast : Broadcast) (l : Layout) (n u k : ℕ) → IsApart broadcast.cast.packets → IsLaid broadcast l → n < length broadcast.cast.packets.sent → holds_part u k (l.holds n) ≡ true → k < l.count u
    → (u < length broadcast.units) × (n ≡ place_of broadcast.cast.packets.sent (l.packet_id u) (l.first u + k))
place-part broadcast l n u k apart laid ln h lk =
    let r = right_part broadcast l (get_or broadcast.cast.packets.sent n no_packet).packet_id (get_or broadcast.cast.packets.sent n no_packet).number u k (l.holds n) (laid.placed n ln) h in
    let at = ((laid.unit u r.below).each k lk).0 in
    (r.below, apart n (place_of broadcast.cast.packets.sent (l.packet_id u) (l.first u + k)) ln at.of (r.same_id ∙ sym at.has_id) (r.same_number ∙ sym at.has_number))

once_by : (broadcast : Broadcast) (l : Layout) (u n : ℕ) → IsApart broadcast.cast.packets → IsLaid broadcast l → n < length broadcast.cast.packets.sent
    → holds_part u 0 (l.holds n) ≡ (nat_lt u (length broadcast.units) && (n == first_of (unit_of broadcast u).members))
once_by broadcast l u n apart laid ln =
    same_tests (holds_part u 0 (l.holds n)) (nat_lt u (length broadcast.units) && (n == first_of (unit_of broadcast u).members))
    (λ h.
    let r = right_part broadcast l (get_or broadcast.cast.packets.sent n no_packet).packet_id (get_or broadcast.cast.packets.sent n no_packet).number u 0 (l.holds n) (laid.placed n ln) h in
    let unit = laid.unit u r.below in
    let p = place-part broadcast l n u 0 apart laid ln h (omega (arith, unit.some)) in
    let z : l.first u + 0 ≡ l.first u = omega arith in
    and_from (nat_lt u (length broadcast.units)) (n == first_of (unit_of broadcast u).members) (lt-ltb u (length broadcast.units) r.below)
    (eq-eqb n (first_of (unit_of broadcast u).members) (p.1 ∙ (ap (place_of broadcast.cast.packets.sent (l.packet_id u)) z ∙ sym (first_member broadcast l u unit)))))
    (λ h.
    let p = and_parts (nat_lt u (length broadcast.units)) (n == first_of (unit_of broadcast u).members) h in
    let lu = ltb-true u (length broadcast.units) p.0 in
    let unit = laid.unit u lu in
    let e : n ≡ place_of broadcast.cast.packets.sent (l.packet_id u) (l.first u) = eqb-true n (first_of (unit_of broadcast u).members) p.1 ∙ first_member broadcast l u unit in
    let z : l.first u ≡ l.first u + 0 = omega arith in
    ap (λ i. holds_part u 0 (l.holds i)) (e ∙ ap (place_of broadcast.cast.packets.sent (l.packet_id u)) z) ∙ (unit.each 0 (omega (arith, unit.some))).1)

abbrev pub cut_data_unit : Layout → ℕ → ℕ → DataUnit
cut_data_unit l u k = record { key = (l.data_unit u).key; priority = (l.data_unit u).priority; dependency = (l.data_unit u).dependency; bytes = l.part u k }

-- part k of a unit with later parts is a joined_unit
later-part : (l : Layout) (u k : ℕ) (c : Holding) → holds_part u (suc k) c ≡ true → payload_by l c ≡ payload_by l (Holding.Fragment u (suc k))
unfolding holds_part
later-part l u k (Holding.Whole v) h = absurd (nat-suc k (and_parts (v == u) (suc k == 0) h).1)
  where
    nat-suc : (k : ℕ) → (suc k == 0) ≡ true → ⊥
    nat-suc k e = (let f = eqb-true (suc k) 0 e in omega arith)
later-part l u k (Holding.Fragment v j) h =
    let p = and_parts (v == u) (suc k == j) h in
    ap₂ (λ a b. payload_by l (Holding.Fragment a b)) (eqb-true v u p.0) (sym (eqb-true (suc k) j p.1))
later-part l u k (Holding.Group f c) h = absurd (nat-suc k (and_parts (nat_le f u && nat_lt u (f + c)) (suc k == 0) h).1)
  where
    nat-suc : (k : ℕ) → (suc k == 0) ≡ true → ⊥
    nat-suc k e = (let f = eqb-true (suc k) 0 e in omega arith)
later-part l u k (Holding.Parameters bytes) h = absurd (true≢false (sym h))
later-part l u k (Holding.Table c) h = absurd (true≢false (sym h))
later-part l u k (Holding.TablePart c j) h = absurd (true≢false (sym h))

same_self : (b : Bool) → same_flag b b ≡ true
same_self true = refl
same_self false = refl

-- what a later part is to its rest_of_run
link-part : (l : Layout) (u k : ℕ) → media_link (l.timed u) (l.mpu u) (payload_by l (Holding.Fragment u (suc k))) ≡ cond (suc k + 1 == l.count u) (Link.End (l.part u (suc k))) (Link.Inner (l.part u (suc k)))
unfolding payload_by role
link-part l u k = rw (ne_eqb (suc k) 0 (omega arith)) (go (suc k + 1 == l.count u))
  where
    go : (b : Bool) → media_link (l.timed u) (l.mpu u) (Payload.Media (cond b parts.Last parts.Middle) (l.timed u) (l.mpu u) (cut_data_unit l u (suc k) ∷ [])) ≡ cond b (Link.End (l.part u (suc k))) (Link.Inner (l.part u (suc k)))
    go true = linked (ap₂ (λ a b. a && b) (same_self (l.timed u)) (eq-eqb (l.mpu u) (l.mpu u) refl))
      where
        linked : (same_flag (l.timed u) (l.timed u) && (l.mpu u == l.mpu u)) ≡ true → media_link (l.timed u) (l.mpu u) (Payload.Media parts.Last (l.timed u) (l.mpu u) (cut_data_unit l u (suc k) ∷ [])) ≡ Link.End (l.part u (suc k))
        linked e = unfold media_link in (rw e refl)
    go false = linked (ap₂ (λ a b. a && b) (same_self (l.timed u)) (eq-eqb (l.mpu u) (l.mpu u) refl))
      where
        linked : (same_flag (l.timed u) (l.timed u) && (l.mpu u == l.mpu u)) ≡ true → media_link (l.timed u) (l.mpu u) (Payload.Media parts.Middle (l.timed u) (l.mpu u) (cut_data_unit l u (suc k) ∷ [])) ≡ Link.Inner (l.part u (suc k))
        linked e = unfold media_link in (rw e refl)

part-at : (broadcast : Broadcast) (l : Layout) (u k : ℕ) → IsLaid broadcast l → u < length broadcast.units → suc k < l.count u → (p : ℕ) → (p ≡ place_of broadcast.cast.packets.sent (l.packet_id u) (l.first u + suc k))
    → IsAt broadcast.cast.packets p (l.packet_id u) (l.first u + suc k) × (media_link (l.timed u) (l.mpu u) (payload_of broadcast.cast.packets p) ≡ cond (suc k + 1 == l.count u) (Link.End (l.part u (suc k))) (Link.Inner (l.part u (suc k))))
part-at broadcast l u k laid lu lk p is =
    let e = (laid.unit u lu).each (suc k) lk in
    let at : IsAt broadcast.cast.packets p (l.packet_id u) (l.first u + suc k) = subst (λ i. IsAt broadcast.cast.packets i (l.packet_id u) (l.first u + suc k)) (sym is) e.0 in
    let has : holds_part u (suc k) (l.holds p) ≡ true = ap (λ i. holds_part u (suc k) (l.holds i)) is ∙ e.1 in
    (at, ap (media_link (l.timed u) (l.mpu u)) (laid.payload p at.of ∙ later-part l u k (l.holds p) has) ∙ link-part l u k)

-- the parts of a unit from one of them on are a chain
chain : (broadcast : Broadcast) (l : Layout) (u : ℕ) → IsLaid broadcast l → u < length broadcast.units → (c j number : ℕ) → number ≡ l.first u + suc j → suc j + suc c ≡ l.count u
    → IsChain broadcast.cast.packets (media_link (l.timed u) (l.mpu u)) (l.packet_id u) number (map (place_of broadcast.cast.packets.sent (l.packet_id u)) (numbers number (suc c))) (map (l.part u) (numbers (suc j) (suc c)))
unfolding numbers
chain broadcast l u laid lu zero j number is sum =
    let a = part-at broadcast l u j laid lu (omega arith) (place_of broadcast.cast.packets.sent (l.packet_id u) number) (ap (place_of broadcast.cast.packets.sent (l.packet_id u)) is) in (
      subst (λ n. IsAt broadcast.cast.packets (place_of broadcast.cast.packets.sent (l.packet_id u) number) (l.packet_id u) n) (sym is) a.0,
      a.1 ∙ ap (λ b. cond b (Link.End (l.part u (suc j))) (Link.Inner (l.part u (suc j)))) (eq-eqb (suc j + 1) (l.count u) (omega arith)),
    )
chain broadcast l u laid lu (suc c) j number is sum =
    let a = part-at broadcast l u j laid lu (omega arith) (place_of broadcast.cast.packets.sent (l.packet_id u) number) (ap (place_of broadcast.cast.packets.sent (l.packet_id u)) is) in
    let e : next_number number ≡ number + 1 = next_number-low number (omega (arith, is, sum, (laid.unit u lu).low)) in
    let up : suc j + 1 ≡ suc (suc j) = omega arith in
    let rest = chain broadcast l u laid lu c (suc j) (number + 1) (omega arith) (omega arith) in (
      subst (λ n. IsAt broadcast.cast.packets (place_of broadcast.cast.packets.sent (l.packet_id u) number) (l.packet_id u) n) (sym is) a.0,
      a.1 ∙ ap (λ b. cond b (Link.End (l.part u (suc j))) (Link.Inner (l.part u (suc j)))) (ne_eqb (suc j + 1) (l.count u) (omega arith)),
      subst (λ i. IsChain broadcast.cast.packets (media_link (l.timed u) (l.mpu u)) (l.packet_id u) (next_number number) (map (place_of broadcast.cast.packets.sent (l.packet_id u)) (numbers (number + 1) (suc c))) (map (l.part u) (numbers i (suc c)))) (sym up)
          (subst (λ i. IsChain broadcast.cast.packets (media_link (l.timed u) (l.mpu u)) (l.packet_id u) i (map (place_of broadcast.cast.packets.sent (l.packet_id u)) (numbers (number + 1) (suc c))) (map (l.part u) (numbers (suc (suc j)) (suc c)))) (sym e) rest),
    )

-- what a unit is read as, from the packet that it begins in
unit-is : (broadcast : Broadcast) (l : Layout) (n u : ℕ) (p : ℕ) (b : List ℕ) → IsLaidUnit broadcast l u → (n ≡ place_of broadcast.cast.packets.sent (l.packet_id u) (l.first u)) → IsAt broadcast.cast.packets n (l.packet_id u) (l.first u)
    → place_among (l.holds n) u ≡ p → b ≡ (l.data_unit u).bytes → (mpu : ℕ) → mpu ≡ l.mpu u
    → (unit_of broadcast u).value ≡ record { packet_id = (heard_of broadcast.cast.packets n).packet_id; mpu = mpu; key = (l.data_unit u).key; priority = (l.data_unit u).priority; dependency = (l.data_unit u).dependency; number = (heard_of broadcast.cast.packets n).number; place = p; bytes = b }
unfolding heard_of
unit-is broadcast l n u p b laid is at e f mpu m =
    laid.value
    ∙ (λ i. record {
      packet_id = sym at.has_id i;
      mpu = sym m i;
      key = (l.data_unit u).key;
      priority = (l.data_unit u).priority;
      dependency = (l.data_unit u).dependency;
      number = sym at.has_number i;
      place = (ap (λ j. place_among (l.holds j) u) (sym is) ∙ e) i;
      bytes = sym f i;
    })

at-first : (broadcast : Broadcast) (l : Layout) (n u : ℕ) → IsLaidUnit broadcast l u → (n ≡ place_of broadcast.cast.packets.sent (l.packet_id u) (l.first u + 0)) → (n ≡ place_of broadcast.cast.packets.sent (l.packet_id u) (l.first u)) × IsAt broadcast.cast.packets n (l.packet_id u) (l.first u)
at-first broadcast l n u laid is =
    let z : l.first u + 0 ≡ l.first u = omega arith in
    let is' : n ≡ place_of broadcast.cast.packets.sent (l.packet_id u) (l.first u) = is ∙ ap (place_of broadcast.cast.packets.sent (l.packet_id u)) z in (
      is',
      subst (λ i. IsAt broadcast.cast.packets i (l.packet_id u) (l.first u)) (sym is')
          (subst (λ k. IsAt broadcast.cast.packets (place_of broadcast.cast.packets.sent (l.packet_id u) k) (l.packet_id u) k) z (laid.each 0 (omega (arith, laid.some))).0),
    )

one-member : (broadcast : Broadcast) (l : Layout) (n u : ℕ) → IsLaidUnit broadcast l u → (n ≡ place_of broadcast.cast.packets.sent (l.packet_id u) (l.first u)) → l.count u ≡ 1 → (unit_of broadcast u).members ≡ n ∷ []
unfolding numbers
one-member broadcast l n u laid is one = laid.members ∙ (ap (λ c. map (place_of broadcast.cast.packets.sent (l.packet_id u)) (numbers (l.first u) c)) one ∙ ap (λ x. x ∷ []) (sym is))

each-numbers : (P : ℕ → Type 0) (f c : ℕ) → ((u : ℕ) → f ≤ u → u < f + c → P u) → AllByRecursion P (numbers f c)
unfolding numbers
each-numbers P f zero h = tt
each-numbers P f (suc c) h = (h f (omega arith) (omega arith), each-numbers P (f + 1) c (λ u a b. h u (omega arith) (omega arith)))

group-values : (broadcast : Broadcast) (l : Layout) (n f c : ℕ) → IsApart broadcast.cast.packets → IsLaid broadcast l → n < length broadcast.cast.packets.sent → l.holds n ≡ Holding.Group f c → IsPlaced broadcast l (get_or broadcast.cast.packets.sent n no_packet).packet_id (get_or broadcast.cast.packets.sent n no_packet).number (Holding.Group f c)
    → (d k j : ℕ) → k ≡ f + j → j + d ≡ c → map (λ u. (unit_of broadcast u).value) (numbers k d) ≡ whole_units (heard_of broadcast.cast.packets n) (l.mpu f) j (map l.data_unit (numbers k d))
unfolding numbers whole_units unit_from
group-values broadcast l n f c apart laid ln is r zero k j a b = refl
group-values broadcast l n f c apart laid ln is r (suc d) k j a b =
    let s = r.1 k (omega arith) (omega arith) in
    let lk : k < length broadcast.units = omega (arith, r.0) in
    let unit = laid.unit k lk in
    let has : holds_part k 0 (l.holds n) ≡ true = ap (holds_part k 0) is ∙ (unfold holds_part in (and_from (nat_le f k && nat_lt k (f + c)) true (and_from (nat_le f k) (nat_lt k (f + c)) (le-leb f k (omega arith)) (lt-ltb k (f + c) (omega arith))) refl)) in
    let p = place-part broadcast l n k 0 apart laid ln has (omega (arith, unit.some)) in
    let q = at-first broadcast l n k unit p.1 in
    let pl : place_among (l.holds n) k ≡ j = ap (λ x. place_among x k) is ∙ (unfold place_among in (omega arith)) in
    ap₂ (λ x y. x ∷ y) (unit-is broadcast l n k j (l.data_unit k).bytes unit q.0 q.1 pl refl (l.mpu f) (sym s.4))
    (group-values broadcast l n f c apart laid ln is r d (k + 1) (j + 1) (omega arith) (omega arith))

group-has : (u f c : ℕ) → f ≤ u → u < f + c → holds_part u 0 (Holding.Group f c) ≡ true
unfolding holds_part
group-has u f c a b = and_from (nat_le f u && nat_lt u (f + c)) true (and_from (nat_le f u) (nat_lt u (f + c)) (le-leb f u a) (lt-ltb u (f + c) b)) refl

chained : (broadcast : Broadcast) (l : Layout) (n u : ℕ) (rest : List ℕ) (parts : List (List ℕ)) → IsAt broadcast.cast.packets n (l.packet_id u) (l.first u) → next_number (l.first u) ≡ l.first u + 1
    → IsChain broadcast.cast.packets (media_link (l.timed u) (l.mpu u)) (l.packet_id u) (l.first u + 1) rest parts
    → IsChain broadcast.cast.packets (media_link (l.timed u) (l.mpu u)) (heard_of broadcast.cast.packets n).packet_id (next_number (heard_of broadcast.cast.packets n).number) rest parts
unfolding heard_of
chained broadcast l n u rest parts at up ch =
    subst (λ i. IsChain broadcast.cast.packets (media_link (l.timed u) (l.mpu u)) i (next_number (get_or broadcast.cast.packets.sent n no_packet).number) rest parts) (sym at.has_id)
    (subst (λ k. IsChain broadcast.cast.packets (media_link (l.timed u) (l.mpu u)) (l.packet_id u) k rest parts) (sym (ap next_number at.has_number ∙ up)) ch)

fragmented : (broadcast : Broadcast) (l : Layout) (n u : ℕ) → IsApart broadcast.cast.packets → IsLaid broadcast l → n < length broadcast.cast.packets.sent → l.holds n ≡ Holding.Fragment u 0
    → (v : ℕ) × (u ∷ [] ≡ v ∷ []) × IsFragmented broadcast n v (l.timed u) (l.mpu u) (cut_data_unit l u 0)
unfolding numbers unit_from
fragmented broadcast l n u apart laid ln is =
    let r = subst (IsPlaced broadcast l (get_or broadcast.cast.packets.sent n no_packet).packet_id (get_or broadcast.cast.packets.sent n no_packet).number) is (laid.placed n ln) in
    let unit = laid.unit u r.0 in
    let has : holds_part u 0 (l.holds n) ≡ true = ap (holds_part u 0) is ∙ (unfold holds_part in (and_from (u == u) true (eq-eqb u u refl) refl)) in
    let p = place-part broadcast l n u 0 apart laid ln has (omega (arith, unit.some)) in
    let q = at-first broadcast l n u unit p.1 in
    let pl : place_among (l.holds n) u ≡ 0 = ap (λ x. place_among x u) is ∙ (unfold place_among in refl) in
    (u, refl, go broadcast l n u laid r.0 unit q.0 q.1 pl (l.count u) refl r.4)
  where
    go : (broadcast : Broadcast) (l : Layout) (n u : ℕ) → IsLaid broadcast l → u < length broadcast.units → IsLaidUnit broadcast l u → (n ≡ place_of broadcast.cast.packets.sent (l.packet_id u) (l.first u)) → IsAt broadcast.cast.packets n (l.packet_id u) (l.first u) → place_among (l.holds n) u ≡ 0
        → (c : ℕ) → l.count u ≡ c → 2 ≤ c → IsFragmented broadcast n u (l.timed u) (l.mpu u) (cut_data_unit l u 0)
    go broadcast l n u laid lu unit is at pl zero e h = absurd (omega arith)
    go broadcast l n u laid lu unit is at pl (suc zero) e h = absurd (omega arith)
    go broadcast l n u laid lu unit is at pl (suc (suc c)) e h =
        let up : next_number (l.first u) ≡ l.first u + 1 = next_number-low (l.first u) (omega (arith, e, unit.low)) in
        let ch = chain broadcast l u laid lu c 0 (l.first u + 1) (omega arith) (omega (arith, e)) in
        let whole : joined (l.part u 0 ∷ map (l.part u) (numbers 1 (suc c))) ≡ (l.data_unit u).bytes = sym (ap (λ k. joined (map (l.part u) (numbers 0 k))) e) ∙ unit.whole in
        record {
          rest = map (place_of broadcast.cast.packets.sent (l.packet_id u)) (numbers (l.first u + 1) (suc c));
          parts = map (l.part u) (numbers 1 (suc c));
          members = unit.members ∙ (ap (λ k. map (place_of broadcast.cast.packets.sent (l.packet_id u)) (numbers (l.first u) k)) e ∙ ap (λ x. x ∷ map (place_of broadcast.cast.packets.sent (l.packet_id u)) (numbers (l.first u + 1) (suc c))) (sym is));
          chain = chained broadcast l n u (map (place_of broadcast.cast.packets.sent (l.packet_id u)) (numbers (l.first u + 1) (suc c))) (map (l.part u) (numbers 1 (suc c))) at up ch;
          value = unit-is broadcast l n u 0 (joined (l.part u 0 ∷ map (l.part u) (numbers 1 (suc c)))) unit is at pl whole (l.mpu u) refl;
        }

begins-by : (broadcast : Broadcast) (l : Layout) (n : ℕ) → IsApart broadcast.cast.packets → IsLaid broadcast l → n < length broadcast.cast.packets.sent → (c : Holding) → l.holds n ≡ c → BeginsWith broadcast (starts_by c) n (payload_by l c)
unfolding starts_by payload_by role whole_units unit_from
begins-by broadcast l n apart laid ln (Holding.Whole u) is =
    let r = subst (IsPlaced broadcast l (get_or broadcast.cast.packets.sent n no_packet).packet_id (get_or broadcast.cast.packets.sent n no_packet).number) is (laid.placed n ln) in
    let unit = laid.unit u r.0 in
    let has : holds_part u 0 (l.holds n) ≡ true = ap (holds_part u 0) is ∙ (unfold holds_part in (and_from (u == u) true (eq-eqb u u refl) refl)) in
    let p = place-part broadcast l n u 0 apart laid ln has (omega (arith, unit.some)) in
    let q = at-first broadcast l n u unit p.1 in
    let pl : place_among (l.holds n) u ≡ 0 = ap (λ x. place_among x u) is ∙ (unfold place_among in refl) in
    (ap (λ x. x ∷ []) (unit-is broadcast l n u 0 (l.data_unit u).bytes unit q.0 q.1 pl refl (l.mpu u) refl), (one-member broadcast l n u unit q.0 r.3, tt))
begins-by broadcast l n apart laid ln (Holding.Fragment u zero) is = fragmented broadcast l n u apart laid ln is
begins-by broadcast l n apart laid ln (Holding.Fragment u (suc k)) is = rw (ne_eqb (suc k) 0 (omega arith)) (go (suc k + 1 == l.count u))
  where
    go : (b : Bool) → BeginsWith broadcast [] n (Payload.Media (cond b parts.Last parts.Middle) (l.timed u) (l.mpu u) (cut_data_unit l u (suc k) ∷ []))
    go true = refl
    go false = refl
begins-by broadcast l n apart laid ln (Holding.Group f c) is =
    let r = subst (IsPlaced broadcast l (get_or broadcast.cast.packets.sent n no_packet).packet_id (get_or broadcast.cast.packets.sent n no_packet).number) is (laid.placed n ln) in (
      group-values broadcast l n f c apart laid ln is r c f 0 (omega arith) (omega arith),
      each-numbers (λ u. (unit_of broadcast u).members ≡ n ∷ []) f c
          (λ u a b.
          let s = r.1 u a b in
          let lu : u < length broadcast.units = omega (arith, r.0) in
          let unit = laid.unit u lu in
          let has : holds_part u 0 (l.holds n) ≡ true = ap (holds_part u 0) is ∙ group-has u f c a b in
          let p = place-part broadcast l n u 0 apart laid ln has (omega (arith, unit.some)) in
          one-member broadcast l n u unit (at-first broadcast l n u unit p.1).0 s.2),
    )
begins-by broadcast l n apart laid ln (Holding.Parameters bytes) is = refl
begins-by broadcast l n apart laid ln (Holding.Table c) is = refl
begins-by broadcast l n apart laid ln (Holding.TablePart c k) is = refl

-- a layout is a cut
pub cut : (broadcast : Broadcast) (l : Layout) → IsApart broadcast.cast.packets → IsLaid broadcast l → ((u : ℕ) → u < length broadcast.units → (k : ℕ) → occurrences k (unit_of broadcast u).members ≤ 1) → IsCut broadcast (λ n. starts_by (l.holds n))
cut broadcast l apart laid distinct =
    record {
      begins = λ n ln. subst (BeginsWith broadcast (starts_by (l.holds n)) n) (sym (laid.payload n ln)) (begins-by broadcast l n apart laid ln (l.holds n) refl);
      once = λ u n ln. occurrences-starts u (l.holds n) ∙ ap as_number (once_by broadcast l u n apart laid ln);
      distinct = distinct;
    }
