-- What is found of a delivery is what is expected of it.
use Rattle.std.proofs.Common.{◌≡◌, ℕ, ◌+◌, ◌-◌, ◌^◌, ◌<◌, ◌≤◌, zero, suc, Bool, true, false, ◌&&◌, nat_lt, cond, List, [], ◌∷◌, ◌++◌, map, None, length, get_or, arith, refl, ap, ap₂, sym, ◌∙◌, subst, add-one}
use Rattle.std.specs.List.{filter, list_any}
use Rattle.std.proofs.lemmas.List.{length-append, length-map}
use Rattle.mmt_cast.proofs.Copies.{IsCopy, are-copies}
use Rattle.mmt_cast.proofs.Listing.{each-at, length-sort}
use Rattle.mmt_cast.specs.Casting.{cast_of, copies_as_sent}
use Rattle.mmt_delivery.proofs.Admitting.{apart}
use Rattle.mmt_delivery.proofs.Carried.{entry-at, unit-at, units-many}
use Rattle.mmt_delivery.proofs.Faultless.{admitted}
use Rattle.mmt_delivery.proofs.Finding.{IsApart}
use Rattle.mmt_expect.proofs.Counted.{complete-is, counted-is}
use Rattle.mmt_expect.proofs.Greatest.{AreThose, all-below, all-below-some}
use Rattle.mmt_expect.proofs.LeastNamed.{named-is}
use Rattle.mmt_expect.proofs.Members.{of-copy, of-unit}
use Rattle.mmt_expect.proofs.Starting.{of-tuned}
use Rattle.mmt_expect.proofs.Surviving.{AreSoon}
use Rattle.mmt_base.specs.Ticks.{due_of}
use Rattle.mmt_expect.specs.Found.{IsFound, is_found}
use Rattle.mmt_expect.specs.Latest.{greatest, signal_in, unit_in}
use Rattle.mmt_expect.specs.Reaches.{never}
use Rattle.mmt_expect.specs.declared.counting.Found.{Found}
use Rattle.mmt_model.specs.Admission.{fault}
use Rattle.mmt_model.specs.Broadcast.{Broadcast, CopyPlaces, UnitPlaces, due_of_unit, entry_of, presentation_of}
use Rattle.mmt_model.specs.Carrying.{Contents, IsCastOf, IsSentUnit, unit_sent, broadcast_of, copy_places, mpu_of, no_table_copy, entry_of_unit, numbers, packets_of, place_of, places_of_copy, places_of_unit, sent_unit, table_copy}
use Rattle.mmt_model.specs.Counts.{member}
use Rattle.mmt_model.specs.Delivery.{newest_first}
use Rattle.mmt_model.specs.Entries.{Entry}
use Rattle.mmt_model.specs.Expected.{expected, is_complete, is_counted, is_expected, places}
use Rattle.mmt_model.specs.Handing.{is_presented_before, time_for, time_of}
use Rattle.mmt_model.specs.Received.{expected_in, tuned_places}
use Rattle.mmt_model.specs.Survival.{AreOf}
use Rattle.mmt_model.specs.declared.casts.Carries.{Carries}
use Rattle.mmt_model.specs.declared.casts.Cast.{Cast}
use Rattle.mmt_model.specs.declared.casts.TableCopy.{TableCopy}
use Rattle.mmt_model.specs.declared.programmes.Programme.{Programme}

-- the due tick of a unit
due-is : (cast : Cast) (contents : Contents) (u : ℕ) → u < length cast.units → IsSentUnit cast contents u → due_of_unit (broadcast_of cast contents) u ≡ (sent_unit cast u).due.0
unfolding due_of_unit presentation_of time_of unit_sent entry_of_unit
due-is cast contents u l sent =
    ap (λ p. due_of (time_for 1 (entry_of (broadcast_of cast contents).cast p.mpu) p.value.key)) (unit-at cast contents u l)
    ∙ (ap (λ e. due_of (time_for 1 e (contents.data_unit u).key)) (entry-at cast contents (mpu_of cast u) sent.known)
    ∙ (ap (λ k. due_of (time_for 1 (contents.entry (mpu_of cast u)) k)) sent.key
    ∙ (ap due_of (sym sent.time) ∙ sym sent.due)))

-- at least one number
some-numbers : (f : ℕ → ℕ) (a c : ℕ) → 1 ≤ c → map f (numbers a c) ≡ f a ∷ map f (numbers (a + 1) (c - 1))
unfolding numbers
some-numbers f a zero l = absurd (omega arith)
some-numbers f a (suc c) l = let e : c ≡ suc c - 1 = omega arith in ap (λ k. f a ∷ map f (numbers (a + 1) k)) e

-- the signal of a table copy is one of the programme
pub signal-known : (programme : Programme) (cast : Cast) → cast ≡ cast_of programme → (c : ℕ) → c < length cast.copies → (get_or cast.copies c no_table_copy).signal < length programme.signals
unfolding cast_of
signal-known programme cast is c l =
    let copies : cast.copies ≡ copies_as_sent programme = ap (λ (x : Cast). x.copies) is in
    subst (λ (cs : List TableCopy). (get_or cs c no_table_copy).signal < length programme.signals) (sym copies)
    (each-at (IsCopy programme) (copies_as_sent programme) c no_table_copy (are-copies programme) (omega (arith, l, ap (λ (cs : List TableCopy). length cs) copies))).of

cons-if : (b : Bool) (x : ℕ) (l xs ys : List ℕ) → l ≡ xs ++ ys → cond b (x ∷ l) l ≡ cond b (x ∷ xs) xs ++ ys
cons-if true x l xs ys e = ap (λ r. x ∷ r) e
cons-if false x l xs ys e = e

same-append : (p : ℕ → Bool) (xs ys : List ℕ) → filter p (xs ++ ys) ≡ filter p xs ++ filter p ys
same-append p [] ys = refl
same-append p (x ∷ xs) ys = cons-if (p x) x (filter p (xs ++ ys)) (filter p xs) (filter p ys) (same-append p xs ys)

pub filter-next : (p : ℕ → Bool) (n : ℕ) → filter p (places (suc n)) ≡ filter p (places n) ++ cond (p n) (n ∷ []) []
unfolding places
filter-next p n = same-append p (places n) (n ∷ [])

-- two tests that agree below a number leave the same places
same-filter : (p q : ℕ → Bool) (m n : ℕ) → n ≤ m → ((u : ℕ) → u < m → p u ≡ q u) → filter p (places n) ≡ filter q (places n)
unfolding places
same-filter p q m zero l h = refl
same-filter p q m (suc n) l h = filter-next p n ∙ (ap₂ (λ a b. a ++ cond b (n ∷ []) []) (same-filter p q m n (omega arith) h) (h n (omega arith)) ∙ sym (filter-next q n))

module _ (programme : Programme) (cast : Cast) (list : List ℕ) (found : Found) (contents : Contents) (names_in : List ℕ → List Entry)
    (is : cast ≡ cast_of programme) (none : fault cast ≡ None) (right : IsCastOf cast contents names_in) (soon : AreSoon cast.packets) (of : AreOf cast.packets list)
    (dues : (u : ℕ) → u < length cast.units → (sent_unit cast u).due.0 < 2 ^ 60)
    (f : IsFound programme cast list found) where
  abbrev hist : List ℕ
  hist = newest_first (tuned_places cast programme.full_every list)

  abbrev b : Broadcast
  b = broadcast_of cast contents

  of-hist : AreOf cast.packets hist
  of-hist = of-tuned cast programme.full_every list of

  apart-here : IsApart (packets_of cast contents)
  apart-here = apart b cast.params (admitted cast contents names_in none right)

  -- a table copy counts for a due tick where its reach is before it
  counted-some : (due : ℕ) (test : Carries → Bool) (ms : List ℕ) (first count : ℕ) (g : ℕ → ℕ) → due ≤ never → ms ≡ map g (numbers first count) → 1 ≤ count → AreThose test cast.packets ms
      → is_counted b.cast cast.params.delay hist ms due ≡ nat_lt (greatest test cast.packets f.reaches (length cast.packets)) due
  counted-some due test ms first count g small e some those =
      let e' = e ∙ some-numbers g first count some in
      ap (λ l. is_counted b.cast cast.params.delay hist l due) e'
      ∙ (counted-is b.cast cast.params.delay due (g first) hist (map g (numbers (first + 1) (count - 1))) soon of-hist small
      ∙ all-below-some test cast.packets cast.params.delay hist f.reaches (g first) (map g (numbers (first + 1) (count - 1))) due f.of_packets (subst (AreThose test cast.packets) e' those))

  copy-counts : (due : ℕ) → due ≤ never → (c : ℕ) → c < length cast.copies
      → is_counted b.cast cast.params.delay hist (copy_places cast.packets (get_or cast.copies c no_table_copy)).members due ≡ nat_lt (get_or f.signals (get_or cast.copies c no_table_copy).signal 0) due
  unfolding table_copy places_of_copy
  copy-counts due small c l =
      let copy : TableCopy = get_or cast.copies c no_table_copy in
      let known : copy.signal < length programme.signals = signal-known programme cast is c l in
      counted-some due (signal_in copy.signal) (places_of_copy cast.packets copy) copy.first_number copy.count (place_of cast.packets 0) small refl (right.copy c l).some
      (of-copy cast contents names_in c right apart-here l)
      ∙ ap (λ x. nat_lt x due) (sym (f.of_signals.each copy.signal known))

  -- all packets of a unit survive where it has a reach
  unit-complete : (u : ℕ) → u < length cast.units → is_complete b.cast cast.params.delay hist (places_of_unit cast contents u) ≡ nat_lt (get_or found.units.items u 0) never
  unfolding places_of_unit
  unit-complete u l =
      let sent = right.unit u l in
      let e = some-numbers (place_of cast.packets (entry_of_unit cast contents u).packet_id) (sent_unit cast u).first_number (sent_unit cast u).count sent.some in
      complete-is b.cast cast.params.delay hist (places_of_unit cast contents u) soon of-hist
      ∙ (all-below (unit_in u) cast.packets cast.params.delay hist f.reaches (places_of_unit cast contents u) never f.of_packets (of-unit cast contents names_in u right apart-here l) (omega arith)
      ∙ ap (λ x. nat_lt x never) (sym (f.of_units.each u l)))

  unit-named : (u : ℕ) → u < length cast.units → (due : ℕ) → due ≤ never
      → list_any (λ (y : CopyPlaces). member (mpu_of cast u) y.names && is_counted b.cast cast.params.delay hist y.members due) (map (copy_places cast.packets) cast.copies)
      ≡ nat_lt (get_or found.named.items (mpu_of cast u) 0) due
  unit-named u l due small =
      named-is (copy_places cast.packets) (λ (y : CopyPlaces). is_counted b.cast cast.params.delay hist y.members due) (λ (y : CopyPlaces). y.names) cast.copies f.signals (mpu_of cast u) due small (λ c. refl)
      (copy-counts due small)
      ∙ ap (λ x. nat_lt x due) (sym (f.named.each (mpu_of cast u) (right.unit u l).known))

  unit-expected : (u : ℕ) → u < length cast.units → is_expected b cast.params.delay hist u ≡ is_found cast found u
  unfolding is_expected is_found
  unit-expected u l =
      let small : (sent_unit cast u).due.0 ≤ never = omega (arith, dues u l) in
      ap₂ (λ (p : UnitPlaces) d. is_complete b.cast cast.params.delay hist p.members && list_any (λ c. member p.mpu c.names && is_counted b.cast cast.params.delay hist c.members d) b.cast.copies) (unit-at cast contents u l) (due-is cast contents u l (right.unit u l))
      ∙ ap₂ (λ x y. x && y) (unit-complete u l) (unit-named u l (sent_unit cast u).due.0 small)

  -- so as many units are found as are expected
  pub count-is : length (filter (is_found cast found) (places (length cast.units))) ≡ length (expected_in cast contents programme.full_every list)
  unfolding expected_in expected
  count-is =
      sym (length-sort is_presented_before (map (presentation_of b) (filter (is_expected b cast.params.delay hist) (places (length b.units))))
      ∙ (length-map (filter (is_expected b cast.params.delay hist) (places (length b.units))) (presentation_of b)
      ∙ (ap (λ n. length (filter (is_expected b cast.params.delay hist) (places n))) (units-many cast contents)
      ∙ ap length (same-filter (is_expected b cast.params.delay hist) (is_found cast found) (length cast.units) (length cast.units) (omega arith) unit-expected))))

-- one unit more
pub count-next : (p : ℕ → Bool) (n : ℕ) (b : Bool) (count : ℕ) → count ≡ length (filter p (places n)) → b ≡ p n → cond b (count + 1) count ≡ length (filter p (places (n + 1)))
count-next p n b count before is =
    go b is ∙ sym (ap length (ap (λ k. filter p (places k)) (add-one n) ∙ filter-next p n) ∙ length-append (filter p (places n)) (cond (p n) (n ∷ []) []))
  where
    go : (b : Bool) → b ≡ p n → cond b (count + 1) count ≡ length (filter p (places n)) + length (cond (p n) (n ∷ []) [])
    go true e = omega (arith, before, ap (λ t. length (cond t (n ∷ []) [])) (sym e))
    go false e = omega (arith, before, ap (λ t. length (cond t (n ∷ []) [])) (sym e))

pub none-counted : (p : ℕ → Bool) → 0 ≡ length (filter p (places 0))
unfolding places
none-counted p = refl
