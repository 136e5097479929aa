-- Packets at the ticks of their slots, in the order of a cast.
use Rattle.std.proofs.Common.{◌≡◌, ℕ, ◌+◌, ◌<◌, ◌≤◌, suc, zero, true, false, ◌⊎◌, inl, inr, List, [], ◌∷◌, ◌++◌, map, length, get_or, arith, refl, ap, sym, ◌∙◌, ⊎_elim}
use Rattle.std.specs.List.{AllByRecursion, Contains, IsDistinct}
use Rattle.std.specs.List.Sorted.{IsNonDecreasingBy, IsPermutation}
use Rattle.std.proofs.Math.Nat.{mul-le-mul_right}
use Rattle.std.proofs.lemmas.Bool.{cases_eq, cases_lt, eq-eqb, eqb-false, ne_eqb}
use Rattle.std.proofs.lemmas.List.{get_or_default}
use Rattle.std.proofs.lemmas.List.Sorted.{Contains-permutation, IsPermutation-sym}
use Rattle.std.proofs.lemmas.Map.Keys.{IsDistinct-IsPermutation}
use Rattle.mmt_base.specs.declared.ticks.LongTick.{LongTick}
use Rattle.mmt_cast.proofs.Listing.{IsIn, each-at, each-weaker, in-sort}
use Rattle.mmt_cast.proofs.Ordering.{Comparable, InOrder, from-sort, one-order, order-sort, sent-order}
use Rattle.mmt_cast.proofs.Placed.{each-map_from_at}
use Rattle.mmt_cast.specs.Casting.{is_sent_before}
use Rattle.mmt_casting.proofs.Adding.{added-more}
use Rattle.mmt_model.proofs.Preceding.{before-either}
use Rattle.mmt_model.specs.Carrying.{numbers}
use Rattle.mmt_model.specs.Handing.{precedes}
use Rattle.mmt_model.specs.Sorted.{sort_by}
use Rattle.mmt_model.specs.Survival.{no_packet}
use Rattle.mmt_model.specs.declared.casts.Cast.{Cast}
use Rattle.mmt_model.specs.declared.casts.Sent.{Sent}
use Rattle.mmt_pace.proofs.Between.{all-there}
use Rattle.mmt_pace.proofs.Moved.{at-retimed, length-retimed}
use Rattle.mmt_pace.specs.Asked.{AreApart, AreGiven, IsCarriedBy, IsRow, have_one_tick}
use Rattle.mmt_pace.specs.Recast.{at_tick, retimed, ticks_of}
use Rattle.mmt_slots.specs.Schedule.{slot_of, tick_of}
use Rattle.mmt_slots.specs.declared.row.Slots.{Slots}

-- ---- packet by packet

-- what the list holds after the packets before place n
abbrev pub retimed_to : (ℕ → ℕ) → List Sent → ℕ → List Sent
retimed_to ticks packets n = map (λ i. at_tick (ticks i) (get_or packets i no_packet)) (numbers 0 n)

pub none-retimed : (ticks : ℕ → ℕ) (packets items : List Sent) → items ≡ [] → items ≡ retimed_to ticks packets 0
unfolding numbers
none-retimed ticks packets items e = e

pub one-retimed : (ticks : ℕ → ℕ) (packets : List Sent) (n : ℕ) (d : Sent) (items items' : List Sent) (at : LongTick) → n < length packets → items ≡ retimed_to ticks packets n
    → items' ≡ items ++ record { at = at; packet_id = (get_or packets n d).packet_id; number = (get_or packets n d).number; rap = (get_or packets n d).rap; length = (get_or packets n d).length; carries = (get_or packets n d).carries } ∷ []
    → at.0 ≡ ticks n → items' ≡ retimed_to ticks packets (n + 1)
one-retimed ticks packets n d items items' at l e push et =
    let z : n ≡ 0 + n = omega arith in
    added-more (λ i. at_tick (ticks i) (get_or packets i no_packet)) 0 n [] items items' (at_tick at.0 (get_or packets n d)) e push
    (ap (λ t. at_tick t (get_or packets n d)) et ∙ (ap (at_tick (ticks n)) (get_or_default packets n d no_packet l) ∙ ap (λ i. at_tick (ticks i) (get_or packets i no_packet)) z))

pub all-retimed : (ticks : ℕ → ℕ) (packets : List Sent) (n : ℕ) (items : List Sent) → n ≡ length packets → items ≡ retimed_to ticks packets n → items ≡ retimed ticks packets
unfolding retimed
all-retimed ticks packets n items en e = all-there (λ k p. at_tick (ticks k) p) no_packet packets n items en e

-- what packets carry stays
pub still-carried : (ticks : ℕ → ℕ) (cast : Cast) (packets : List Sent) → AllByRecursion (λ (p : Sent). IsCarriedBy cast p.carries) packets → AllByRecursion (λ (p : Sent). IsCarriedBy cast p.carries) (retimed ticks packets)
unfolding retimed
still-carried ticks cast packets all = each-map_from_at (λ (p : Sent). IsCarriedBy cast p.carries) (λ n p. at_tick (ticks n) p) 0 packets no_packet (λ j l. each-at (λ (p : Sent). IsCarriedBy cast p.carries) packets j no_packet all l)

-- ---- all apart

apart-by : (xs : List Sent) → ((m n : ℕ) → m < n → n < length xs → (get_or xs m no_packet).at.0 ≡ (get_or xs n no_packet).at.0 → ⊥) → AreApart xs
unfolding IsDistinct
apart-by [] h = tt
apart-by (x ∷ xs) h = (from-first xs (λ n l e. h 0 (suc n) (omega arith) (omega arith) e), apart-by xs (λ m n a l e. h (suc m) (suc n) (omega arith) (omega arith) e))
  where
    from-first : (ys : List Sent) → ((n : ℕ) → n < length ys → x.at.0 ≡ (get_or ys n no_packet).at.0 → ⊥) → AllByRecursion (λ (y : Sent). have_one_tick x y ≡ false) ys
    from-first [] g = tt
    from-first (y ∷ ys) g = (ne_eqb x.at.0 y.at.0 (g 0 (omega arith)), from-first ys (λ n l e. g (suc n) (omega arith) e))

-- slots are told by their ticks
slots-apart : (slots : Slots) (i j : ℕ) → 1 ≤ slots.step → tick_of slots i ≡ tick_of slots j → i ≡ j
slots-apart slots i j some e =
    ⊎_elim
    (λ (lt : i < j). absurd (further i j lt e))
    (λ (ge : j ≤ i). ⊎_elim (λ (gt : j < i). absurd (further j i gt (sym e))) (λ (le : i ≤ j). omega arith) (cases_lt j i))
    (cases_lt i j)
  where
    further : (a b : ℕ) → a < b → tick_of slots a ≡ tick_of slots b → ⊥
    further a b lt e = let next : a + 1 ≤ b = omega arith in let m = mul-le-mul_right slots.step next in omega (arith, m, e, some)

pub retimed-apart : (slots : Slots) (given : List ℕ) (packets : List Sent) → IsRow slots → AreGiven (length packets) slots given → AreApart (retimed (ticks_of slots given) packets)
retimed-apart slots given packets row are =
    apart-by (retimed (ticks_of slots given) packets)
    (λ m n a l e.
    (let ln : n < length packets = omega (arith, l, length-retimed (ticks_of slots given) packets) in
    let lm : m < length packets = omega (arith, a, ln) in
    let em = ap (λ (p : Sent). p.at.0) (at-retimed (ticks_of slots given) packets m lm) in
    let en = ap (λ (p : Sent). p.at.0) (at-retimed (ticks_of slots given) packets n ln) in
    let same : m ≡ n = are.own m n lm ln (slots-apart slots (slot_of given m) (slot_of given n) row.step (sym em ∙ (e ∙ en))) in
    omega (arith, a, same)))

-- ---- in order

abbrev numbers_of : Sent → List ℕ
numbers_of p = p.at.0 ∷ p.packet_id ∷ p.number ∷ []

either-way : (p q : Sent) → have_one_tick p q ≡ false → (is_sent_before p q ≡ true) ⊎ (is_sent_before q p ≡ true)
unfolding is_sent_before
either-way p q ne = before-either (numbers_of p) (numbers_of q) refl (λ e. (let a : p.at.0 ≡ q.at.0 = cc in eqb-false p.at.0 q.at.0 ne a))

comparable : (xs : List Sent) → AreApart xs → Comparable is_sent_before xs
unfolding IsDistinct
comparable [] d = tt
comparable (x ∷ xs) d = (each-weaker (λ (q : Sent). have_one_tick x q ≡ false) (λ (q : Sent). (is_sent_before x q ≡ true) ⊎ (is_sent_before q x ≡ true)) xs (λ q ne. either-way x q ne) d.0, comparable xs d.1)

first-earlier : (p q : Sent) → have_one_tick p q ≡ false → p.at.0 ≤ q.at.0 → is_sent_before p q ≡ true
unfolding is_sent_before precedes
first-earlier p q ne l =
    let lt : p.at.0 < q.at.0 = ⊎_elim (λ (a : p.at.0 < q.at.0). a) (λ (b : q.at.0 ≤ p.at.0). (let e : p.at.0 ≡ q.at.0 = omega arith in absurd (eqb-false p.at.0 q.at.0 ne e))) (cases_lt p.at.0 q.at.0) in
    grind (arith, lt)

flips : (p q : Sent) → have_one_tick p q ≡ have_one_tick q p
flips p q = ⊎_elim (λ (e : p.at.0 ≡ q.at.0). eq-eqb p.at.0 q.at.0 e ∙ sym (eq-eqb q.at.0 p.at.0 (sym e))) (λ (ne : p.at.0 ≡ q.at.0 → ⊥). ne_eqb p.at.0 q.at.0 ne ∙ sym (ne_eqb q.at.0 p.at.0 (λ e. ne (sym e)))) (cases_eq p.at.0 q.at.0)

order-by : (ys : List Sent) → AreApart ys → IsNonDecreasingBy (λ (p : Sent). p.at.0) ys → InOrder is_sent_before ys
unfolding IsDistinct
order-by [] d rises = tt
order-by (y ∷ ys) d rises = (first-of ys d.0 (λ j e l. rises 0 (suc j) e (omega arith) (omega arith)), order-by ys d.1 (λ i j e a l. rises (suc i) (suc j) e (omega arith) (omega arith)))
  where
    first-of : (zs : List Sent) → AllByRecursion (λ (z : Sent). have_one_tick y z ≡ false) zs → ((j : ℕ) (e : Sent) → j < length zs → y.at.0 ≤ (get_or zs j e).at.0) → AllByRecursion (λ (z : Sent). is_sent_before y z ≡ true) zs
    first-of [] all g = tt
    first-of (z ∷ zs) all g = (first-earlier y z all.0 (g 0 z (omega arith)), first-of zs all.1 (λ j e l. g (suc j) e (omega arith)))

-- what stands in a list
contains-in : (z : Sent) (xs : List Sent) (k : ℕ) → k < length xs → get_or xs k z ≡ z → IsIn z xs
contains-in z [] k l e = absurd (omega arith)
contains-in z (x ∷ xs) zero l e = inl e
contains-in z (x ∷ xs) (suc k) l e = inr (contains-in z xs k (omega arith) e)

in-contains : (z : Sent) (xs : List Sent) → IsIn z xs → Contains xs z
in-contains z [] i = elim i [ ]
in-contains z (x ∷ xs) (inl e) = (0, omega arith, e)
in-contains z (x ∷ xs) (inr i) = let c = in-contains z xs i in (suc c.0, omega (arith, c.1), c.2)

in-from : (z : Sent) (xs : List Sent) → Contains xs z → IsIn z xs
in-from z xs c = contains-in z xs c.0 c.1 c.2

pub sorted-by-tick : (xs ys : List Sent) → AreApart xs → IsPermutation xs ys → IsNonDecreasingBy (λ (p : Sent). p.at.0) ys → ys ≡ sort_by is_sent_before xs
sorted-by-tick xs ys apart moved rises =
    one-order is_sent_before sent-order.one_way ys (sort_by is_sent_before xs) (order-by ys (IsDistinct-IsPermutation have_one_tick flips xs ys moved apart) rises)
    (order-sort is_sent_before sent-order xs (comparable xs apart))
    (λ p i. in-sort is_sent_before p xs (in-from p xs (Contains-permutation ys xs p (IsPermutation-sym xs ys moved) (in-contains p ys i))))
    (λ p i. in-from p ys (Contains-permutation xs ys p moved (in-contains p xs (from-sort is_sent_before p xs i))))
