-- A layout cuts its table copies as the receiver joins them.
use Rattle.std.proofs.Common.{◌≡◌, ℕ, ◌+◌, ◌-◌, ◌<◌, ◌≤◌, zero, suc, Bool, true, false, ◌==◌, nat_lt, cond, List, [], ◌∷◌, map, length, get_or, arith, refl, ap, ap₂, sym, ◌∙◌, ⊎_elim, inl, inr, filter, subst, true≢false, append-nil}
use Rattle.std.specs.List.{list_any, flat_map}
use Rattle.std.proofs.lemmas.Bool.Decides.{nat_tests}
use Rattle.std.proofs.lemmas.Bool.{cases_eq, eq-eqb, eqb-true, ne_eqb, and_parts, and_from, or_cases, or_right, or_left, ltb-false, false_from_ne_true}
use Rattle.std.specs.List.{AllByRecursion}
use Rattle.mmt_delivery.proofs.Cutting.{AreTables, IsAt, IsChain, IsTable, IsTablePart, NamesOf, payload_of}
use Rattle.mmt_delivery.proofs.Finding.{IsApart}
use Rattle.mmt_delivery.proofs.Laid.{AreLaidCopies, Holding, IsLaid, IsLaidCopy, IsPlaced, Layout, copy_at, head_by, holds_copy_part, no_copy, payload_by, tail_by}
use Rattle.mmt_delivery.proofs.Telling.{next_number-low}
use Rattle.mmt_delivery.proofs.Tests.{member-occurrences, same_tests}
use Rattle.mmt_model.specs.Broadcast.{Broadcast}
use Rattle.mmt_model.specs.Carrying.{numbers, place_of, role}
use Rattle.mmt_model.specs.Counts.{as_number, member, occurrences}
use Rattle.mmt_model.specs.Entries.{Entry}
use Rattle.mmt_model.specs.Packets.{Payload}
use Rattle.mmt_model.specs.Survival.{SentPackets, heard_of, no_packet}
use Rattle.mmt_model.specs.Units.{Link, joined, next_number, signal_link}
use Rattle.mmt_model.specs.declared.keys.Part.TheVariants as parts

-- the list of the one element that passes, or of none
filter-none : {X : Type 0} (q : X → Bool) (xs : List X) (d : X) → ((i : ℕ) → i < length xs → q (get_or xs i d) ≡ false) → filter q xs ≡ []
filter-none q [] d h = refl
filter-none q (x ∷ xs) d h = rw (h 0 (omega arith)) (filter-none q xs d (λ i l. h (suc i) (omega arith)))

filter-one : {X : Type 0} (q : X → Bool) (xs : List X) (c : ℕ) (d : X) → c < length xs → ((i : ℕ) → i < length xs → q (get_or xs i d) ≡ (i == c)) → filter q xs ≡ get_or xs c d ∷ []
filter-one q [] c d l h = absurd (omega arith)
filter-one q (x ∷ xs) zero d l h = rw (h 0 (omega arith)) (ap (λ r. x ∷ r) (filter-none q xs d (λ i li. h (suc i) (omega arith) ∙ ne_eqb (suc i) 0 (omega arith))))
filter-one q (x ∷ xs) (suc c) d l h =
    rw (h 0 (omega arith) ∙ ne_eqb 0 (suc c) (omega arith)) (filter-one q xs c d (omega arith) (λ i li. h (suc i) (omega arith) ∙ shift i c))
  where
    shift : (i c : ℕ) → (suc i == suc c) ≡ (i == c)
    shift i c = grind (arith, nat_tests)

-- the places of consecutive numbers
member-numbers : (f : ℕ → ℕ) (n a c : ℕ) → member n (map f (numbers a c)) ≡ true → (k : ℕ) × (k < c) × (n ≡ f (a + k))
unfolding member numbers
member-numbers f n a zero m = absurd (true≢false (sym m))
member-numbers f n a (suc c) m =
    ⊎_elim
    (λ (t : (f a == n) ≡ true). (0, omega arith, sym (eqb-true (f a) n t) ∙ ap f (omega arith)))
    (λ (t : list_any (λ i. i == n) (map f (numbers (a + 1) c)) ≡ true).
    let r = member-numbers f n (a + 1) c t in
    (suc r.0, omega (arith, r.1), r.2 ∙ ap f (omega arith)))
    (or_cases (f a == n) (list_any (λ i. i == n) (map f (numbers (a + 1) c))) m)

numbers-member : (f : ℕ → ℕ) (n a c k : ℕ) → k < c → n ≡ f (a + k) → member n (map f (numbers a c)) ≡ true
unfolding member numbers
numbers-member f n a zero k l e = absurd (omega arith)
numbers-member f n a (suc c) zero l e = or_left (f a == n) (list_any (λ i. i == n) (map f (numbers (a + 1) c))) (eq-eqb (f a) n (ap f (omega arith) ∙ sym e))
numbers-member f n a (suc c) (suc k) l e = or_right (f a == n) (list_any (λ i. i == n) (map f (numbers (a + 1) c))) (numbers-member f n (a + 1) c k (omega arith) (e ∙ ap f (omega arith)))

-- the copy that a packet is of
which : (broadcast : Broadcast) (names_in : List ℕ → List Entry) (l : Layout) (n c k : ℕ) → AreLaidCopies broadcast names_in l → c < length broadcast.cast.copies → k < l.copy_count c → holds_copy_part c k (l.holds n) ≡ true → n ≡ place_of broadcast.cast.packets.sent 0 (l.copy_first c + k)
    → ((i j : ℕ) → holds_copy_part i j (l.holds n) ≡ true → i ≡ c)
    → filter (λ c. member n c.members) broadcast.cast.copies ≡ copy_at broadcast c ∷ []
unfolding copy_at
which broadcast names_in l n c k laid lc lk has is only =
    filter-one (λ c. member n c.members) broadcast.cast.copies c no_copy lc
    (λ i li. same_tests (member n (get_or broadcast.cast.copies i no_copy).members) (i == c)
    (λ m.
    let r = member-numbers (place_of broadcast.cast.packets.sent 0) n (l.copy_first i) (l.copy_count i) (ap (member n) (sym (laid.copy i li).members) ∙ m) in
    let h : holds_copy_part i r.0 (l.holds n) ≡ true = ap (λ p. holds_copy_part i r.0 (l.holds p)) r.2 ∙ ((laid.copy i li).each r.0 r.1).1 in
    eq-eqb i c (only i r.0 h))
    (λ e.
    let s : i ≡ c = eqb-true i c e in
    ap (λ j. member n (get_or broadcast.cast.copies j no_copy).members) s
    ∙ (ap (member n) (laid.copy c lc).members ∙ numbers-member (place_of broadcast.cast.packets.sent 0) n (l.copy_first c) (l.copy_count c) k lk is)))

no-copy : (broadcast : Broadcast) (names_in : List ℕ → List Entry) (l : Layout) (n : ℕ) → AreLaidCopies broadcast names_in l → ((i j : ℕ) → holds_copy_part i j (l.holds n) ≡ false) → filter (λ c. member n c.members) broadcast.cast.copies ≡ []
unfolding copy_at
no-copy broadcast names_in l n laid none =
    filter-none (λ c. member n c.members) broadcast.cast.copies no_copy
    (λ i li. false_from_ne_true (member n (get_or broadcast.cast.copies i no_copy).members)
    (λ m.
    let r = member-numbers (place_of broadcast.cast.packets.sent 0) n (l.copy_first i) (l.copy_count i) (ap (member n) (sym (laid.copy i li).members) ∙ m) in
    true≢false (sym (ap (λ p. holds_copy_part i r.0 (l.holds p)) r.2 ∙ ((laid.copy i li).each r.0 r.1).1) ∙ none i r.0)))

zero_by : (n : ℕ) (ks : List ℕ) → (member n ks ≡ true → ⊥) → occurrences n ks ≡ 0
zero_by n ks h =
    let f : nat_lt 0 (occurrences n ks) ≡ false = sym (member-occurrences n ks) ∙ false_from_ne_true (member n ks) h in
    let le : occurrences n ks ≤ 0 = ltb-false 0 (occurrences n ks) f in
    omega arith

-- the places of consecutive numbers are distinct
pub distinct-places : (packets : SentPackets) (packet_id a c : ℕ) (n : ℕ) → ((i : ℕ) → i < c → IsAt packets (place_of packets.sent packet_id (a + i)) packet_id (a + i)) → occurrences n (map (place_of packets.sent packet_id) (numbers a c)) ≤ 1
unfolding numbers
distinct-places packets packet_id a zero n at = omega arith
distinct-places packets packet_id a (suc c) n at =
    let later : (i : ℕ) → i < c → IsAt packets (place_of packets.sent packet_id (a + 1 + i)) packet_id (a + 1 + i) =
    λ i l. (let e : a + suc i ≡ a + 1 + i = omega arith in subst (λ k. IsAt packets (place_of packets.sent packet_id k) packet_id k) e (at (suc i) (omega arith))) in
    ⊎_elim
    (λ (e : place_of packets.sent packet_id a ≡ n).
    let none : occurrences n (map (place_of packets.sent packet_id) (numbers (a + 1) c)) ≡ 0 =
    zero_by n (map (place_of packets.sent packet_id) (numbers (a + 1) c))
    (λ m.
    let r = member-numbers (place_of packets.sent packet_id) n (a + 1) c m in
    let here = (at 0 (omega arith)).has_number in
    let there = (later r.0 r.1).has_number in
    let z : a + 0 ≡ a = omega arith in
    let s : (get_or packets.sent (place_of packets.sent packet_id (a + 0)) no_packet).number ≡ (get_or packets.sent (place_of packets.sent packet_id (a + 1 + r.0)) no_packet).number =
    ap (λ p. (get_or packets.sent p no_packet).number) (ap (place_of packets.sent packet_id) z ∙ (e ∙ r.2)) in
    omega (arith, here, there, s)) in
    omega (arith, none, ap as_number (eq-eqb (place_of packets.sent packet_id a) n e)))
    (λ (ne : place_of packets.sent packet_id a ≡ n → ⊥). omega (arith, ap as_number (ne_eqb (place_of packets.sent packet_id a) n ne), distinct-places packets packet_id (a + 1) c n later))
    (cases_eq (place_of packets.sent packet_id a) n)

-- later parts of a table
later-copy : (broadcast : Broadcast) (l : Layout) (c k : ℕ) (packet_id number : ℕ) (x : Holding) → 2 ≤ l.copy_count c → IsPlaced broadcast l packet_id number x → holds_copy_part c k x ≡ true → x ≡ Holding.TablePart c k
unfolding holds_copy_part
later-copy broadcast l c k packet_id number (Holding.Table d) two r h =
    let p = and_parts (d == c) (k == 0) h in absurd (omega (arith, two, r.3, ap l.copy_count (eqb-true d c p.0)))
later-copy broadcast l c k packet_id number (Holding.TablePart d j) two r h =
    let p = and_parts (d == c) (k == j) h in ap₂ Holding.TablePart (eqb-true d c p.0) (sym (eqb-true k j p.1))
later-copy broadcast l c k packet_id number (Holding.Whole u) two r h = absurd (true≢false (sym h))
later-copy broadcast l c k packet_id number (Holding.Fragment u j) two r h = absurd (true≢false (sym h))
later-copy broadcast l c k packet_id number (Holding.Group f n) two r h = absurd (true≢false (sym h))
later-copy broadcast l c k packet_id number (Holding.Parameters bytes) two r h = absurd (true≢false (sym h))

part-carries : (broadcast : Broadcast) (names_in : List ℕ → List Entry) (l : Layout) (c k : ℕ) → IsLaid broadcast l → IsLaidCopy broadcast names_in l c → 2 ≤ l.copy_count c → k < l.copy_count c
    → l.holds (place_of broadcast.cast.packets.sent 0 (l.copy_first c + k)) ≡ Holding.TablePart c k
part-carries broadcast names_in l c k laid copy two lk =
    let e = copy.each k lk in
    let p : ℕ = place_of broadcast.cast.packets.sent 0 (l.copy_first c + k) in
    later-copy broadcast l c k (get_or broadcast.cast.packets.sent p no_packet).packet_id (get_or broadcast.cast.packets.sent p no_packet).number (l.holds p) two (laid.placed p (e.0).of) e.1

link-copy : (l : Layout) (c k : ℕ) → signal_link (payload_by l (Holding.TablePart c (suc k))) ≡ cond (suc k + 1 == l.copy_count c) (Link.End (l.copy_part c (suc k))) (Link.Inner (l.copy_part c (suc k)))
unfolding payload_by role signal_link
link-copy l c k = rw (ne_eqb (suc k) 0 (omega arith)) (go (suc k + 1 == l.copy_count c))
  where
    go : (b : Bool) → signal_link (Payload.Signalling (cond b parts.Last parts.Middle) (l.copy_part c (suc k) ∷ [])) ≡ cond b (Link.End (l.copy_part c (suc k))) (Link.Inner (l.copy_part c (suc k)))
    go true = refl
    go false = refl

copy-part : (broadcast : Broadcast) (names_in : List ℕ → List Entry) (l : Layout) (c j number : ℕ) → IsLaid broadcast l → IsLaidCopy broadcast names_in l c → 2 ≤ l.copy_count c → suc j < l.copy_count c → number ≡ l.copy_first c + suc j
    → IsAt broadcast.cast.packets (place_of broadcast.cast.packets.sent 0 number) 0 number × (signal_link (payload_of broadcast.cast.packets (place_of broadcast.cast.packets.sent 0 number)) ≡ cond (suc j + 1 == l.copy_count c) (Link.End (l.copy_part c (suc j))) (Link.Inner (l.copy_part c (suc j))))
copy-part broadcast names_in l c j number laid copy two lt is =
    let at : IsAt broadcast.cast.packets (place_of broadcast.cast.packets.sent 0 number) 0 number = subst (λ k. IsAt broadcast.cast.packets (place_of broadcast.cast.packets.sent 0 k) 0 k) (sym is) (copy.each (suc j) lt).0 in
    let cs : l.holds (place_of broadcast.cast.packets.sent 0 number) ≡ Holding.TablePart c (suc j) = ap (λ k. l.holds (place_of broadcast.cast.packets.sent 0 k)) is ∙ part-carries broadcast names_in l c (suc j) laid copy two lt in
    (at, ap signal_link (laid.payload (place_of broadcast.cast.packets.sent 0 number) at.of ∙ ap (payload_by l) cs) ∙ link-copy l c j)

copy-chain : (broadcast : Broadcast) (names_in : List ℕ → List Entry) (l : Layout) (c : ℕ) → IsLaid broadcast l → IsLaidCopy broadcast names_in l c → 2 ≤ l.copy_count c → (d j number : ℕ) → number ≡ l.copy_first c + suc j → suc j + suc d ≡ l.copy_count c
    → IsChain broadcast.cast.packets signal_link 0 number (map (place_of broadcast.cast.packets.sent 0) (numbers number (suc d))) (map (l.copy_part c) (numbers (suc j) (suc d)))
unfolding numbers
copy-chain broadcast names_in l c laid copy two zero j number is sum =
    let a = copy-part broadcast names_in l c j number laid copy two (omega arith) is in
    (a.0, a.1 ∙ ap (λ b. cond b (Link.End (l.copy_part c (suc j))) (Link.Inner (l.copy_part c (suc j)))) (eq-eqb (suc j + 1) (l.copy_count c) (omega arith)))
copy-chain broadcast names_in l c laid copy two (suc d) j number is sum =
    let a = copy-part broadcast names_in l c j number laid copy two (omega arith) is in
    let e : next_number number ≡ number + 1 = next_number-low number (omega (arith, is, sum, copy.low)) in
    let up : suc j + 1 ≡ suc (suc j) = omega arith in
    let rest = copy-chain broadcast names_in l c laid copy two d (suc j) (number + 1) (omega arith) (omega arith) in (
      a.0,
      a.1 ∙ ap (λ b. cond b (Link.End (l.copy_part c (suc j))) (Link.Inner (l.copy_part c (suc j)))) (ne_eqb (suc j + 1) (l.copy_count c) (omega arith)),
      subst (λ i. IsChain broadcast.cast.packets signal_link 0 (next_number number) (map (place_of broadcast.cast.packets.sent 0) (numbers (number + 1) (suc d))) (map (l.copy_part c) (numbers i (suc d)))) (sym up)
          (subst (λ i. IsChain broadcast.cast.packets signal_link 0 i (map (place_of broadcast.cast.packets.sent 0) (numbers (number + 1) (suc d))) (map (l.copy_part c) (numbers (suc (suc j)) (suc d)))) (sym e) rest),
    )

abbrev pub heads : Broadcast → Layout → ℕ → ℕ
heads broadcast l n = head_by broadcast l n (l.holds n)

abbrev pub tails : Broadcast → Layout → ℕ → List ℕ
tails broadcast l n = tail_by broadcast l (l.holds n)

head-part : (broadcast : Broadcast) (l : Layout) (n c k : ℕ) → l.holds n ≡ Holding.TablePart c k → heads broadcast l n ≡ place_of broadcast.cast.packets.sent 0 (l.copy_first c)
unfolding head_by
head-part broadcast l n c k e = ap (head_by broadcast l n) e

tail-part : (broadcast : Broadcast) (l : Layout) (n c k d : ℕ) → l.holds n ≡ Holding.TablePart c k → l.copy_count c ≡ suc (suc d) → tails broadcast l n ≡ map (place_of broadcast.cast.packets.sent 0) (numbers (l.copy_first c + 1) (suc d))
unfolding tail_by
tail-part broadcast l n c k d e s = ap (tail_by broadcast l) e ∙ ap (λ i. map (place_of broadcast.cast.packets.sent 0) (numbers (l.copy_first c + 1) i)) (let z : l.copy_count c - 1 ≡ suc d = omega arith in z)

each-map : (P : ℕ → Type 0) (f : ℕ → ℕ) (a c : ℕ) → ((i : ℕ) → i < c → P (f (a + i))) → AllByRecursion P (map f (numbers a c))
unfolding numbers
each-map P f a zero h = tt
each-map P f a (suc c) h = (
  subst (λ k. P (f k)) (let z : a + 0 ≡ a = omega arith in z) (h 0 (omega arith)),
  each-map P f (a + 1) c (λ i l. subst (λ k. P (f k)) (let z : a + suc i ≡ a + 1 + i = omega arith in z) (h (suc i) (omega arith))),
)

-- a table copy in parts, as the receiver finds it
pub table-of : (broadcast : Broadcast) (names_in : List ℕ → List Entry) (l : Layout) (c d f : ℕ) → IsLaid broadcast l → IsLaidCopy broadcast names_in l c → l.copy_count c ≡ suc (suc d) → f ≡ place_of broadcast.cast.packets.sent 0 (l.copy_first c)
    → IsTable broadcast.cast.packets (heads broadcast l) (tails broadcast l) f (l.copy_part c 0)
unfolding heard_of numbers
table-of broadcast names_in l c d f laid copy s is =
    let two : 2 ≤ l.copy_count c = omega (arith, s) in
    let z : l.copy_first c + 0 ≡ l.copy_first c = omega arith in
    let is' : f ≡ place_of broadcast.cast.packets.sent 0 (l.copy_first c + 0) = is ∙ ap (place_of broadcast.cast.packets.sent 0) (sym z) in
    let at : IsAt broadcast.cast.packets f 0 (l.copy_first c + 0) = subst (λ i. IsAt broadcast.cast.packets i 0 (l.copy_first c + 0)) (sym is') (copy.each 0 (omega (arith, s))).0 in
    let cs : l.holds f ≡ Holding.TablePart c 0 = ap l.holds is' ∙ part-carries broadcast names_in l c 0 laid copy two (omega (arith, s)) in
    let tail_is = tail-part broadcast l f c 0 d cs s in
    let number : (get_or broadcast.cast.packets.sent f no_packet).number ≡ l.copy_first c = at.has_number ∙ z in
    let up : next_number (l.copy_first c) ≡ l.copy_first c + 1 = next_number-low (l.copy_first c) (omega (arith, s, copy.low)) in
    let len : length (tails broadcast l f) ≡ suc d = ap length tail_is ∙ length-places (place_of broadcast.cast.packets.sent 0) (l.copy_first c + 1) (suc d) in
    let ch = copy-chain broadcast names_in l c laid copy two d 0 (l.copy_first c + 1) (omega arith) (omega (arith, s)) in
    record {
      parts = map (l.copy_part c) (numbers 1 (suc d));
      of = at.of;
      chain =
          subst (λ t. IsChain broadcast.cast.packets signal_link (get_or broadcast.cast.packets.sent f no_packet).packet_id (next_number (get_or broadcast.cast.packets.sent f no_packet).number) t (map (l.copy_part c) (numbers 1 (suc d)))) (sym tail_is)
          (subst (λ i. IsChain broadcast.cast.packets signal_link i (next_number (get_or broadcast.cast.packets.sent f no_packet).number) (map (place_of broadcast.cast.packets.sent 0) (numbers (l.copy_first c + 1) (suc d))) (map (l.copy_part c) (numbers 1 (suc d)))) (sym at.has_id)
          (subst (λ k. IsChain broadcast.cast.packets signal_link 0 k (map (place_of broadcast.cast.packets.sent 0) (numbers (l.copy_first c + 1) (suc d))) (map (l.copy_part c) (numbers 1 (suc d)))) (sym (ap next_number number ∙ up)) ch));
      short = subst (λ i. length (joined (map (l.copy_part c) (numbers 0 i))) ≤ 131072) s copy.short;
      low = omega (arith, number, len, copy.low, s);
      once = λ k. subst (λ t. occurrences k t ≤ 1) (sym tail_is)
          (distinct-places broadcast.cast.packets 0 (l.copy_first c + 1) (suc d) k
          (λ i li. (let e : l.copy_first c + suc i ≡ l.copy_first c + 1 + i = omega arith in subst (λ k. IsAt broadcast.cast.packets (place_of broadcast.cast.packets.sent 0 k) 0 k) e (copy.each (suc i) (omega (arith, s))).0)));
      heads = (
        head-part broadcast l f c 0 cs ∙ sym is,
        subst (λ t. AllByRecursion (λ k. heads broadcast l k ≡ f) t) (sym tail_is)
            (each-map (λ k. heads broadcast l k ≡ f) (place_of broadcast.cast.packets.sent 0) (l.copy_first c + 1) (suc d)
            (λ i li.
            let e : l.copy_first c + 1 + i ≡ l.copy_first c + suc i = omega arith in
            head-part broadcast l (place_of broadcast.cast.packets.sent 0 (l.copy_first c + 1 + i)) c (suc i) (ap (λ k. l.holds (place_of broadcast.cast.packets.sent 0 k)) e ∙ part-carries broadcast names_in l c (suc i) laid copy two (omega (arith, s))) ∙ sym is)),
      );
    }
  where
    length-places : (f : ℕ → ℕ) (a c : ℕ) → length (map f (numbers a c)) ≡ c
    length-places f a zero = refl
    length-places f a (suc c) = ap suc (length-places f (a + 1) c)

-- its bytes are those of all parts
pub table-bytes : (broadcast : Broadcast) (names_in : List ℕ → List Entry) (l : Layout) (c d f : ℕ) → (laid : IsLaid broadcast l) → (copy : IsLaidCopy broadcast names_in l c) → (s : l.copy_count c ≡ suc (suc d)) → (is : f ≡ place_of broadcast.cast.packets.sent 0 (l.copy_first c))
    → joined (l.copy_part c 0 ∷ (table-of broadcast names_in l c d f laid copy s is).parts) ≡ joined (map (l.copy_part c) (numbers 0 (suc (suc d))))
unfolding table-of numbers
table-bytes broadcast names_in l c d f laid copy s is = refl

only_one : (c k i j : ℕ) → holds_copy_part i j (Holding.TablePart c k) ≡ true → i ≡ c
unfolding holds_copy_part
only_one c k i j h = sym (eqb-true c i (and_parts (c == i) (j == k) h).0)

pub first-part : (l : Layout) (c : ℕ) → payload_by l (Holding.TablePart c 0) ≡ Payload.Signalling parts.First (l.copy_part c 0 ∷ [])
unfolding payload_by role
first-part l c = refl

-- a part of a table copy
part-of : (broadcast : Broadcast) (names_in : List ℕ → List Entry) (l : Layout) (n c k d : ℕ) → IsApart broadcast.cast.packets → IsLaid broadcast l → AreLaidCopies broadcast names_in l → n < length broadcast.cast.packets.sent → l.holds n ≡ Holding.TablePart c k → l.copy_count c ≡ suc (suc d)
    → IsTablePart broadcast.cast names_in (heads broadcast l) (tails broadcast l) n
unfolding numbers table-of
part-of broadcast names_in l n c k d apart laid copies ln is s =
    let r = subst (IsPlaced broadcast l (get_or broadcast.cast.packets.sent n no_packet).packet_id (get_or broadcast.cast.packets.sent n no_packet).number) is (laid.placed n ln) in
    let copy = copies.copy c r.0 in
    let f : ℕ = place_of broadcast.cast.packets.sent 0 (l.copy_first c) in
    let z : l.copy_first c + 0 ≡ l.copy_first c = omega arith in
    let at = (copy.each k r.3).0 in
    let here : n ≡ place_of broadcast.cast.packets.sent 0 (l.copy_first c + k) = apart n (place_of broadcast.cast.packets.sent 0 (l.copy_first c + k)) ln at.of (r.1 ∙ sym at.has_id) (r.2 ∙ sym at.has_number) in
    let has : holds_copy_part c k (l.holds n) ≡ true = ap (holds_copy_part c k) is ∙ (unfold holds_copy_part in (and_from (c == c) (k == k) (eq-eqb c c refl) (eq-eqb k k refl))) in
    let hd : heads broadcast l n ≡ f = head-part broadcast l n c k is in
    let cf : l.holds f ≡ Holding.TablePart c 0 = ap (λ i. l.holds (place_of broadcast.cast.packets.sent 0 i)) (sym z) ∙ part-carries broadcast names_in l c 0 laid copy (omega (arith, s)) (omega (arith, s)) in
    let tl : tails broadcast l (heads broadcast l n) ≡ map (place_of broadcast.cast.packets.sent 0) (numbers (l.copy_first c + 1) (suc d)) = ap (tails broadcast l) hd ∙ tail-part broadcast l f c 0 d cf s in
    let all : (copy_at broadcast c).members ≡ heads broadcast l n ∷ tails broadcast l (heads broadcast l n) =
    copy.members ∙ (ap (λ i. map (place_of broadcast.cast.packets.sent 0) (numbers (l.copy_first c) i)) s ∙ ap₂ (λ x y. x ∷ y) (sym hd) (sym tl)) in
    let f_of : f < length broadcast.cast.packets.sent = subst (λ i. place_of broadcast.cast.packets.sent 0 i < length broadcast.cast.packets.sent) z ((copy.each 0 (omega (arith, s))).0).of in
    record {
      copy = copy_at broadcast c;
      only = which broadcast names_in l n c k copies r.0 r.3 has here (λ i j h. only_one c k i j (ap (holds_copy_part i j) (sym is) ∙ h));
      members = all;
      is_in = ap (member n) (sym all) ∙ (ap (member n) copy.members ∙ numbers-member (place_of broadcast.cast.packets.sent 0) n (l.copy_first c) (l.copy_count c) k r.3 here);
      bytes = l.copy_part c 0;
      first = ap (payload_of broadcast.cast.packets) hd ∙ (laid.payload f f_of ∙ (ap (payload_by l) cf ∙ first-part l c));
      table = table-of broadcast names_in l c d (heads broadcast l n) laid copy s hd;
      names = copy.names ∙ ap (λ i. names_in (joined (map (l.copy_part c) (numbers 0 i)))) s;
    }

one-place : (broadcast : Broadcast) (l : Layout) (n c : ℕ) → (n ≡ place_of broadcast.cast.packets.sent 0 (l.copy_first c)) → map (place_of broadcast.cast.packets.sent 0) (numbers (l.copy_first c) 1) ≡ n ∷ []
unfolding numbers
one-place broadcast l n c e = ap (λ x. x ∷ []) (sym e)

one-name : (names_in : List ℕ → List Entry) (part : ℕ → List ℕ) → names_in (joined (map part (numbers 0 1))) ≡ flat_map names_in (part 0 ∷ [])
unfolding numbers
one-name names_in part = ap names_in (append-nil (part 0)) ∙ sym (append-nil (names_in (part 0)))

by_part : (broadcast : Broadcast) (names_in : List ℕ → List Entry) (l : Layout) (n c k : ℕ) → IsApart broadcast.cast.packets → IsLaid broadcast l → AreLaidCopies broadcast names_in l → n < length broadcast.cast.packets.sent → l.holds n ≡ Holding.TablePart c k
    → (count : ℕ) → l.copy_count c ≡ count → 2 ≤ count → NamesOf broadcast.cast names_in (heads broadcast l) (tails broadcast l) n (payload_by l (Holding.TablePart c k))
unfolding payload_by role
by_part broadcast names_in l n c k apart laid copies ln is zero e h = absurd (omega arith)
by_part broadcast names_in l n c k apart laid copies ln is (suc zero) e h = absurd (omega arith)
by_part broadcast names_in l n c zero apart laid copies ln is (suc (suc d)) e h =
    let r = subst (IsPlaced broadcast l (get_or broadcast.cast.packets.sent n no_packet).packet_id (get_or broadcast.cast.packets.sent n no_packet).number) is (laid.placed n ln) in
    let copy = copies.copy c r.0 in
    let z : l.copy_first c + 0 ≡ l.copy_first c = omega arith in
    let at = (copy.each 0 r.3).0 in
    let here : n ≡ place_of broadcast.cast.packets.sent 0 (l.copy_first c + 0) = apart n (place_of broadcast.cast.packets.sent 0 (l.copy_first c + 0)) ln at.of (r.1 ∙ sym at.has_id) (r.2 ∙ sym at.has_number) in
    (head-part broadcast l n c 0 is ∙ sym (here ∙ ap (place_of broadcast.cast.packets.sent 0) z), part-of broadcast names_in l n c 0 d apart laid copies ln is e)
by_part broadcast names_in l n c (suc k) apart laid copies ln is (suc (suc d)) e h =
    rw (ne_eqb (suc k) 0 (omega arith)) (go (suc k + 1 == l.copy_count c) (part-of broadcast names_in l n c (suc k) d apart laid copies ln is e))
  where
    go : (b : Bool) → IsTablePart broadcast.cast names_in (heads broadcast l) (tails broadcast l) n → NamesOf broadcast.cast names_in (heads broadcast l) (tails broadcast l) n (Payload.Signalling (cond b parts.Last parts.Middle) (l.copy_part c (suc k) ∷ []))
    go true p = p
    go false p = p

-- what each packet names
names_by-by : (broadcast : Broadcast) (names_in : List ℕ → List Entry) (l : Layout) (n : ℕ) → IsApart broadcast.cast.packets → IsLaid broadcast l → AreLaidCopies broadcast names_in l → n < length broadcast.cast.packets.sent
    → (c : Holding) → l.holds n ≡ c → NamesOf broadcast.cast names_in (heads broadcast l) (tails broadcast l) n (payload_by l c)
unfolding payload_by holds_copy_part
names_by-by broadcast names_in l n apart laid copies ln (Holding.Whole u) is = no-copy broadcast names_in l n copies (λ i j. ap (holds_copy_part i j) is)
names_by-by broadcast names_in l n apart laid copies ln (Holding.Fragment u k) is = no-copy broadcast names_in l n copies (λ i j. ap (holds_copy_part i j) is)
names_by-by broadcast names_in l n apart laid copies ln (Holding.Group f c) is = no-copy broadcast names_in l n copies (λ i j. ap (holds_copy_part i j) is)
names_by-by broadcast names_in l n apart laid copies ln (Holding.Parameters bytes) is =
    inl (no-copy broadcast names_in l n copies (λ i j. ap (holds_copy_part i j) is), append-nil (names_in bytes) ∙ copies.parameters n bytes ln is)
names_by-by broadcast names_in l n apart laid copies ln (Holding.Table c) is =
    let r = subst (IsPlaced broadcast l (get_or broadcast.cast.packets.sent n no_packet).packet_id (get_or broadcast.cast.packets.sent n no_packet).number) is (laid.placed n ln) in
    let copy = copies.copy c r.0 in
    let z : l.copy_first c + 0 ≡ l.copy_first c = omega arith in
    let at = (copy.each 0 (omega (arith, r.3))).0 in
    let here : n ≡ place_of broadcast.cast.packets.sent 0 (l.copy_first c + 0) = apart n (place_of broadcast.cast.packets.sent 0 (l.copy_first c + 0)) ln at.of (r.1 ∙ sym at.has_id) (r.2 ∙ (sym z ∙ sym at.has_number)) in
    let has : holds_copy_part c 0 (l.holds n) ≡ true = ap (holds_copy_part c 0) is ∙ and_from (c == c) true (eq-eqb c c refl) refl in
    inr (
      copy_at broadcast c,
      which broadcast names_in l n c 0 copies r.0 (omega (arith, r.3)) has here (λ i j h. sym (eqb-true c i (and_parts (c == i) (j == 0) (ap (holds_copy_part i j) (sym is) ∙ h)).0)),
      copy.members ∙ (ap (λ i. map (place_of broadcast.cast.packets.sent 0) (numbers (l.copy_first c) i)) r.3 ∙ one-place broadcast l n c (here ∙ ap (place_of broadcast.cast.packets.sent 0) z)),
      copy.names ∙ (ap (λ i. names_in (joined (map (l.copy_part c) (numbers 0 i)))) r.3 ∙ one-name names_in (l.copy_part c)),
    )
names_by-by broadcast names_in l n apart laid copies ln (Holding.TablePart c k) is =
    let r = subst (IsPlaced broadcast l (get_or broadcast.cast.packets.sent n no_packet).packet_id (get_or broadcast.cast.packets.sent n no_packet).number) is (laid.placed n ln) in
    by_part broadcast names_in l n c k apart laid copies ln is (l.copy_count c) refl r.4

-- a layout has right tables
pub tables : (broadcast : Broadcast) (names_in : List ℕ → List Entry) (l : Layout) → IsApart broadcast.cast.packets → IsLaid broadcast l → AreLaidCopies broadcast names_in l → AreTables broadcast.cast names_in (heads broadcast l) (tails broadcast l)
tables broadcast names_in l apart laid copies =
    record { names_by = λ n ln. subst (NamesOf broadcast.cast names_in (heads broadcast l) (tails broadcast l) n) (sym (laid.payload n ln)) (names_by-by broadcast names_in l n apart laid copies ln (l.holds n) refl) }
