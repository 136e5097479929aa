-- The packets of a unit, and of a table copy, are those that carry its parts.
use Rattle.std.proofs.Common.{◌≡◌, ℕ, ◌+◌, ◌<◌, ◌≤◌, zero, suc, true, ◌==◌, ◌&&◌, nat_lt, nat_le, List, length, map, get_or, arith, ap, sym, ◌∙◌, subst, ⊎_elim}
use Rattle.std.specs.List.{list_any}
use Rattle.std.proofs.lemmas.Bool.{and_parts, eq-eqb, eqb-true, leb-true, ltb-true, or_cases, or_left, or_right}
use Rattle.mmt_expect.proofs.Greatest.{AreThose}
use Rattle.mmt_expect.specs.Latest.{signal_in, unit_in}
use Rattle.mmt_delivery.proofs.Finding.{IsApart}
use Rattle.mmt_model.specs.Carrying.{Contents, IsCastOf, IsInItsPlace, IsSentUnit, copy_place, entry_of_unit, has_part, has_table_part, numbers, packets_of, place_of, places_of_copy, places_of_unit, sent_unit, table_copy}
use Rattle.mmt_model.specs.Counts.{member}
use Rattle.mmt_model.specs.Entries.{Entry}
use Rattle.mmt_model.specs.Survival.{no_packet}
use Rattle.mmt_model.specs.declared.casts.Carries.{Carries}
use Rattle.mmt_model.specs.declared.casts.Cast.{Cast}
use Rattle.mmt_model.specs.declared.casts.Carries.TheVariants as carries

member-numbers : (f : ℕ → ℕ) (n a c : ℕ) → member n (map f (numbers a c)) ≡ true → (k : ℕ) × (k < c) × (n ≡ f (a + k))
unfolding member numbers
member-numbers f n a zero m = absurd cc
member-numbers f n a (suc c) m =
    ⊎_elim
    (λ (t : (f a == n) ≡ true). (0, omega arith, sym (eqb-true (f a) n t) ∙ ap f (omega arith)))
    (λ (t : list_any (λ i. i == n) (map f (numbers (a + 1) c)) ≡ true).
    let r = member-numbers f n (a + 1) c t in
    (suc r.0, omega (arith, r.1), r.2 ∙ ap f (omega arith)))
    (or_cases (f a == n) (list_any (λ i. i == n) (map f (numbers (a + 1) c))) m)

numbers-member : (f : ℕ → ℕ) (n a c k : ℕ) → k < c → n ≡ f (a + k) → member n (map f (numbers a c)) ≡ true
unfolding member numbers
numbers-member f n a zero k l e = absurd (omega arith)
numbers-member f n a (suc c) zero l e = or_left (f a == n) (list_any (λ i. i == n) (map f (numbers (a + 1) c))) (eq-eqb (f a) n (ap f (omega arith) ∙ sym e))
numbers-member f n a (suc c) (suc k) l e = or_right (f a == n) (list_any (λ i. i == n) (map f (numbers (a + 1) c))) (numbers-member f n (a + 1) c k (omega arith) (e ∙ ap f (omega arith)))

-- ---- units

part-in : (u k : ℕ) (x : Carries) → has_part u k x ≡ true → unit_in u x ≡ true
unfolding has_part
part-in u k (carries.Whole v) h = (and_parts (v == u) (k == 0) h).0
part-in u k (carries.Fragment v j) h = (and_parts (v == u) (k == j) h).0
part-in u k (carries.Group f c) h = (and_parts (nat_le f u && nat_lt u (f + c)) (k == 0) h).0
part-in u k (carries.Parameters s) h = absurd cc
part-in u k (carries.Table s) h = absurd cc
part-in u k (carries.TablePart s j) h = absurd cc

-- a packet that carries a part of a unit has its packet id and one of its numbers
number-of : (cast : Cast) (contents : Contents) (u i number : ℕ) (x : Carries) → IsInItsPlace cast contents i number x → unit_in u x ≡ true → ((v : ℕ) → v < length cast.units → IsSentUnit cast contents v)
    → (k : ℕ) × (k < (sent_unit cast u).count) × (i ≡ (entry_of_unit cast contents u).packet_id) × (number ≡ (sent_unit cast u).first_number + k)
number-of cast contents u i number (carries.Whole v) p h unit =
    let e : v ≡ u = eqb-true v u h in
    let q = subst (λ w. (w < length cast.units) × (i ≡ (entry_of_unit cast contents w).packet_id) × (number ≡ (sent_unit cast w).first_number) × ((sent_unit cast w).count ≡ 1)) e p in
    (0, omega (arith, q.3), q.1, omega (arith, q.2))
number-of cast contents u i number (carries.Fragment v k) p h unit =
    let e : v ≡ u = eqb-true v u h in
    let q = subst (λ w. (w < length cast.units) × (i ≡ (entry_of_unit cast contents w).packet_id) × (number ≡ (sent_unit cast w).first_number + k) × (k < (sent_unit cast w).count) × (2 ≤ (sent_unit cast w).count)) e p in
    (k, q.3, q.1, q.2)
number-of cast contents u i number (carries.Group f c) p h unit =
    let a = and_parts (nat_le f u) (nat_lt u (f + c)) h in
    let q = p.1 u (leb-true f u a.0) (ltb-true u (f + c) a.1) in
    (0, omega (arith, q.2), q.0, omega (arith, q.1))
number-of cast contents u i number (carries.Parameters s) p h unit = absurd cc
number-of cast contents u i number (carries.Table s) p h unit = absurd cc
number-of cast contents u i number (carries.TablePart s j) p h unit = absurd cc

pub of-unit : (cast : Cast) (contents : Contents) (names_in : List ℕ → List Entry) (u : ℕ) → IsCastOf cast contents names_in → IsApart (packets_of cast contents) → u < length cast.units → AreThose (unit_in u) cast.packets (places_of_unit cast contents u)
unfolding places_of_unit
of-unit cast contents names_in u right apart l =
    let sent = right.unit u l in
    let f : ℕ → ℕ = place_of cast.packets (entry_of_unit cast contents u).packet_id in
    record {
      pass = λ n m.
          (let r = member-numbers f n (sent_unit cast u).first_number (sent_unit cast u).count m in
          let each = sent.each r.0 r.1 in
          (subst (λ k. k < length cast.packets) (sym r.2) each.0.of, subst (λ k. unit_in u (get_or cast.packets k no_packet).carries ≡ true) (sym r.2) (part-in u r.0 _ each.1)));
      all = λ n ln t.
          (let r = number-of cast contents u _ _ (get_or cast.packets n no_packet).carries (right.packet n ln) t right.unit in
          let each = sent.each r.0 r.1 in
          let same : n ≡ f ((sent_unit cast u).first_number + r.0) = apart n (f ((sent_unit cast u).first_number + r.0)) ln each.0.of (r.2 ∙ sym each.0.has_id) (r.3 ∙ sym each.0.has_number) in
          numbers-member f n (sent_unit cast u).first_number (sent_unit cast u).count r.0 r.1 same);
    }

-- ---- table copies

table-in : (s k : ℕ) (x : Carries) → has_table_part s k x ≡ true → signal_in s x ≡ true
unfolding has_table_part
table-in s k (carries.Table t) h = (and_parts (t == s) (k == 0) h).0
table-in s k (carries.TablePart t j) h = (and_parts (t == s) (k == j) h).0
table-in s k (carries.Whole u) h = absurd cc
table-in s k (carries.Fragment u j) h = absurd cc
table-in s k (carries.Group f c) h = absurd cc
table-in s k (carries.Parameters t) h = absurd cc

copy-number : (cast : Cast) (contents : Contents) (c i number : ℕ) (x : Carries) → IsInItsPlace cast contents i number x → signal_in (table_copy cast c).signal x ≡ true → copy_place cast.copies (table_copy cast c).signal ≡ c
    → (k : ℕ) × (k < (table_copy cast c).count) × (i ≡ 0) × (number ≡ (table_copy cast c).first_number + k)
copy-number cast contents c i number (carries.Table s) p h own =
    let e : copy_place cast.copies s ≡ c = ap (copy_place cast.copies) (eqb-true s (table_copy cast c).signal h) ∙ own in
    let q = subst (λ d. (d < length cast.copies) × (i ≡ 0) × (number ≡ (table_copy cast d).first_number) × ((table_copy cast d).count ≡ 1)) e p in
    (0, omega (arith, q.3), q.1, omega (arith, q.2))
copy-number cast contents c i number (carries.TablePart s k) p h own =
    let e : copy_place cast.copies s ≡ c = ap (copy_place cast.copies) (eqb-true s (table_copy cast c).signal h) ∙ own in
    let q = subst (λ d. (d < length cast.copies) × (i ≡ 0) × (number ≡ (table_copy cast d).first_number + k) × (k < (table_copy cast d).count) × (2 ≤ (table_copy cast d).count)) e p in
    (k, q.3, q.1, q.2)
copy-number cast contents c i number (carries.Whole u) p h own = absurd cc
copy-number cast contents c i number (carries.Fragment u j) p h own = absurd cc
copy-number cast contents c i number (carries.Group f n) p h own = absurd cc
copy-number cast contents c i number (carries.Parameters t) p h own = absurd cc

pub of-copy : (cast : Cast) (contents : Contents) (names_in : List ℕ → List Entry) (c : ℕ) → IsCastOf cast contents names_in → IsApart (packets_of cast contents) → c < length cast.copies
    → AreThose (signal_in (table_copy cast c).signal) cast.packets (places_of_copy cast.packets (table_copy cast c))
unfolding places_of_copy
of-copy cast contents names_in c right apart l =
    let sent = right.copy c l in
    let f : ℕ → ℕ = place_of cast.packets 0 in
    record {
      pass = λ n m.
          (let r = member-numbers f n (table_copy cast c).first_number (table_copy cast c).count m in
          let each = sent.each r.0 r.1 in
          (subst (λ k. k < length cast.packets) (sym r.2) each.0.of, subst (λ k. signal_in (table_copy cast c).signal (get_or cast.packets k no_packet).carries ≡ true) (sym r.2) (table-in (table_copy cast c).signal r.0 _ each.1)));
      all = λ n ln t.
          (let r = copy-number cast contents c _ _ (get_or cast.packets n no_packet).carries (right.packet n ln) t sent.own in
          let each = sent.each r.0 r.1 in
          let same : n ≡ f ((table_copy cast c).first_number + r.0) = apart n (f ((table_copy cast c).first_number + r.0)) ln each.0.of (r.2 ∙ sym each.0.has_id) (r.3 ∙ sym each.0.has_number) in
          numbers-member f n (table_copy cast c).first_number (table_copy cast c).count r.0 r.1 same);
    }
