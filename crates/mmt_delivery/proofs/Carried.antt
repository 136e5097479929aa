-- A cast with its contents is laid out in packets as the proofs want it.
use Rattle.std.proofs.Common.{◌≡◌, ℕ, ◌+◌, ◌<◌, ◌≤◌, zero, suc, Bool, true, false, ◌==◌, cond, List, [], ◌∷◌, map, length, get_or, arith, refl, ap, ap₂, sym, ◌∙◌, subst, true≢false}
use Rattle.std.proofs.lemmas.Bool.{eq-eqb, eqb-true, and_parts, and_from}
use Rattle.std.specs.List.{AllByRecursion}
use Rattle.mmt_delivery.proofs.Admitted.{IsWellFormed}
use Rattle.mmt_delivery.proofs.Admitting.{apart}
use Rattle.mmt_delivery.proofs.Cutting.{IsAt, payload_of}
use Rattle.mmt_delivery.proofs.Finding.{IsApart}
use Rattle.mmt_delivery.proofs.Laid.{AreLaidCopies, Holding, IsLaid, IsLaidCopy, IsLaidUnit, IsPlaced, Layout, copy_at, holds_copy_part, holds_part, no_copy, payload_by, place_among, starts_by}
use Rattle.mmt_delivery.proofs.Laying.{cut}
use Rattle.mmt_delivery.proofs.LayingTables.{distinct-places, heads, tables, tails}
use Rattle.mmt_model.specs.Broadcast.{Broadcast, entry_of, no_entry, no_unit, unit_of}
use Rattle.mmt_model.specs.Carrying.{Contents, IsCastOf, IsInItsPlace, IsPacketAt, IsSentCopy, IsSentUnit, broadcast_of, copy_place, copy_places, entry_of_unit, has_part, has_table_part, mpu_of, no_table_copy, numbers, packets_of, payload_carried, place_in, place_of, places_of_copy, places_of_unit, role, sent_unit, table_copy, unit_places, unit_sent}
use Rattle.mmt_model.specs.Counts.{occurrences}
use Rattle.mmt_model.specs.Entries.{Entry}
use Rattle.mmt_model.specs.Packets.{Payload}
use Rattle.mmt_model.specs.Survival.{no_packet}
use Rattle.mmt_model.specs.declared.casts.Carries.{Carries}
use Rattle.mmt_model.specs.declared.casts.Cast.{Cast}
use Rattle.mmt_model.specs.declared.casts.TableCopy.{TableCopy}
use Rattle.mmt_model.specs.declared.casts.Carries.TheVariants as carries
use Rattle.mmt_model.specs.declared.keys.Part.TheVariants as parts

-- what a packet holds, by places of the cast
abbrev pub holding : Cast → Contents → Carries → Holding
holding cast contents (carries.Whole u) = Holding.Whole u
holding cast contents (carries.Fragment u k) = Holding.Fragment u k
holding cast contents (carries.Group f c) = Holding.Group f c
holding cast contents (carries.Parameters s) = Holding.Parameters (contents.message_part s 0)
holding cast contents (carries.Table s) = Holding.Table (copy_place cast.copies s)
holding cast contents (carries.TablePart s k) = Holding.TablePart (copy_place cast.copies s) k

abbrev pub layout_of : Cast → Contents → Layout
layout_of cast contents =
    record {
      holds = λ n. holding cast contents (get_or cast.packets n no_packet).carries;
      packet_id = λ u. (entry_of_unit cast contents u).packet_id;
      first = λ u. (sent_unit cast u).first_number;
      count = λ u. (sent_unit cast u).count;
      timed = contents.timed;
      mpu = λ u. (entry_of_unit cast contents u).mpu;
      data_unit = contents.data_unit;
      part = contents.part;
      copy_first = λ c. (table_copy cast c).first_number;
      copy_count = λ c. (table_copy cast c).count;
      copy_part = λ c k. contents.message_part (table_copy cast c).signal k;
    }

pub length-numbers : (a c : ℕ) → length (numbers a c) ≡ c
unfolding numbers
length-numbers a zero = refl
length-numbers a (suc c) = ap suc (length-numbers (a + 1) c)

pub length-map : {X Y : Type 0} (f : X → Y) (xs : List X) → length (map f xs) ≡ length xs
length-map f [] = refl
length-map f (x ∷ xs) = ap suc (length-map f xs)

pub get-map : {X Y : Type 0} (f : X → Y) (xs : List X) (i : ℕ) (d : X) (e : Y) → i < length xs → get_or (map f xs) i e ≡ f (get_or xs i d)
get-map f [] i d e l = absurd (omega arith)
get-map f (x ∷ xs) zero d e l = refl
get-map f (x ∷ xs) (suc i) d e l = get-map f xs i d e (omega arith)

pub get-numbers : (a c i d : ℕ) → i < c → get_or (numbers a c) i d ≡ a + i
unfolding numbers
get-numbers a zero i d l = absurd (omega arith)
get-numbers a (suc c) zero d l = omega arith
get-numbers a (suc c) (suc i) d l = get-numbers (a + 1) c i d (omega arith) ∙ (let e : a + 1 + i ≡ a + suc i = omega arith in e)

-- the item at a place of a mapped range
pub get-range : {Y : Type 0} (f : ℕ → Y) (n i : ℕ) (e : Y) → i < n → get_or (map f (numbers 0 n)) i e ≡ f i
get-range f n i e l =
    get-map f (numbers 0 n) i 0 e (omega (arith, length-numbers 0 n))
    ∙ ap f (get-numbers 0 n i 0 l ∙ (let z : 0 + i ≡ i = omega arith in z))

pub length-range : {Y : Type 0} (f : ℕ → Y) (n : ℕ) → length (map f (numbers 0 n)) ≡ n
length-range f n = length-map f (numbers 0 n) ∙ length-numbers 0 n

-- the copy at the place of a signal is that signal's
found-signal : (cs : List TableCopy) (s : ℕ) → copy_place cs s < length cs → (get_or cs (copy_place cs s) no_table_copy).signal ≡ s
unfolding copy_place
found-signal [] s l = absurd (omega arith)
found-signal (c ∷ cs) s l = go (c.signal == s) refl l (λ h. found-signal cs s h)
  where
    go : (b : Bool) → (c.signal == s) ≡ b → cond b 0 (suc (copy_place cs s)) < suc (length cs) → (copy_place cs s < length cs → (get_or cs (copy_place cs s) no_table_copy).signal ≡ s)
        → (get_or (c ∷ cs) (cond b 0 (suc (copy_place cs s))) no_table_copy).signal ≡ s
    go true e h ih = eqb-true c.signal s e
    go false e h ih = ih (omega (arith, h))

pub signal-is : (cast : Cast) (s : ℕ) → copy_place cast.copies s < length cast.copies → (table_copy cast (copy_place cast.copies s)).signal ≡ s
unfolding table_copy
signal-is cast s l = found-signal cast.copies s l

-- payloads are as the layout says
payload-is : (cast : Cast) (contents : Contents) (i number : ℕ) (x : Carries) → IsInItsPlace cast contents i number x → payload_carried cast contents x ≡ payload_by (layout_of cast contents) (holding cast contents x)
unfolding payload_carried payload_by
payload-is cast contents i number (carries.Whole u) p = refl
payload-is cast contents i number (carries.Fragment u k) p = refl
payload-is cast contents i number (carries.Group f c) p = refl
payload-is cast contents i number (carries.Parameters s) p = refl
payload-is cast contents i number (carries.Table s) p = ap (λ t. Payload.Signalling parts.Whole (contents.message_part t 0 ∷ [])) (sym (signal-is cast s p.0))
payload-is cast contents i number (carries.TablePart s k) p =
    ap (λ t. Payload.Signalling (role k (table_copy cast (copy_place cast.copies s)).count) (contents.message_part t k ∷ [])) (sym (signal-is cast s p.0))

pub units-many : (cast : Cast) (contents : Contents) → length (broadcast_of cast contents).units ≡ length cast.units
units-many cast contents = length-range (unit_places cast contents) (length cast.units)

pub copies-many : (cast : Cast) (contents : Contents) → length (broadcast_of cast contents).cast.copies ≡ length cast.copies
copies-many cast contents = length-map (copy_places cast.packets) cast.copies

pub mpus-many : (cast : Cast) (contents : Contents) → length (broadcast_of cast contents).cast.mpus ≡ length cast.mpus
mpus-many cast contents = length-range contents.entry (length cast.mpus)

placed-is : (cast : Cast) (contents : Contents) (i number : ℕ) (x : Carries) → IsInItsPlace cast contents i number x → IsPlaced (broadcast_of cast contents) (layout_of cast contents) i number (holding cast contents x)
unfolding entry_of_unit
placed-is cast contents i number (carries.Whole u) p = (omega (arith, p.0, units-many cast contents), p.1, p.2, p.3)
placed-is cast contents i number (carries.Fragment u k) p = (omega (arith, p.0, units-many cast contents), p.1, p.2, p.3, p.4)
placed-is cast contents i number (carries.Group f c) p = (
  omega (arith, p.0, units-many cast contents),
  λ u a b. (let q = p.1 u a b in (q.0, q.1, q.2, q.3, ap (λ m. (contents.entry m).mpu) q.4)),
)
placed-is cast contents i number (carries.Parameters s) p = tt
placed-is cast contents i number (carries.Table s) p = (omega (arith, p.0, copies-many cast contents), p.1, p.2, p.3)
placed-is cast contents i number (carries.TablePart s k) p = (omega (arith, p.0, copies-many cast contents), p.1, p.2, p.3, p.4)

has-part : (cast : Cast) (contents : Contents) (u k : ℕ) (x : Carries) → has_part u k x ≡ true → holds_part u k (holding cast contents x) ≡ true
unfolding has_part holds_part
has-part cast contents u k (carries.Whole v) h = h
has-part cast contents u k (carries.Fragment v j) h = h
has-part cast contents u k (carries.Group f c) h = h
has-part cast contents u k (carries.Parameters s) h = h
has-part cast contents u k (carries.Table s) h = h
has-part cast contents u k (carries.TablePart s j) h = h

place-among : (cast : Cast) (contents : Contents) (u : ℕ) (x : Carries) → place_in x u ≡ place_among (holding cast contents x) u
unfolding place_in place_among
place-among cast contents u (carries.Whole v) = refl
place-among cast contents u (carries.Fragment v j) = refl
place-among cast contents u (carries.Group f c) = refl
place-among cast contents u (carries.Parameters s) = refl
place-among cast contents u (carries.Table s) = refl
place-among cast contents u (carries.TablePart s j) = refl

has-copy-part : (cast : Cast) (contents : Contents) (c k s : ℕ) (x : Carries) → copy_place cast.copies s ≡ c → has_table_part s k x ≡ true → holds_copy_part c k (holding cast contents x) ≡ true
unfolding has_table_part holds_copy_part
has-copy-part cast contents c k s (carries.Table t) own h =
    let p = and_parts (t == s) (k == 0) h in
    let e : t ≡ s = eqb-true t s p.0 in
    and_from (copy_place cast.copies t == c) (k == 0) (eq-eqb (copy_place cast.copies t) c (ap (copy_place cast.copies) e ∙ own)) p.1
has-copy-part cast contents c k s (carries.TablePart t j) own h =
    let p = and_parts (t == s) (k == j) h in
    let e : t ≡ s = eqb-true t s p.0 in
    and_from (copy_place cast.copies t == c) (k == j) (eq-eqb (copy_place cast.copies t) c (ap (copy_place cast.copies) e ∙ own)) p.1
has-copy-part cast contents c k s (carries.Whole u) own h = absurd (true≢false (sym h))
has-copy-part cast contents c k s (carries.Fragment u j) own h = absurd (true≢false (sym h))
has-copy-part cast contents c k s (carries.Group f n) own h = absurd (true≢false (sym h))
has-copy-part cast contents c k s (carries.Parameters t) own h = absurd (true≢false (sym h))

at-is : (cast : Cast) (contents : Contents) (n packet_id number : ℕ) → IsPacketAt cast.packets n packet_id number → IsAt (packets_of cast contents) n packet_id number
at-is cast contents n packet_id number a = record { of = a.of; has_id = a.has_id; has_number = a.has_number }

pub unit-at : (cast : Cast) (contents : Contents) (u : ℕ) → u < length cast.units → unit_of (broadcast_of cast contents) u ≡ unit_places cast contents u
unfolding unit_of
unit-at cast contents u l = get-range (unit_places cast contents) (length cast.units) u no_unit l

pub entry-at : (cast : Cast) (contents : Contents) (m : ℕ) → m < length cast.mpus → entry_of (broadcast_of cast contents).cast m ≡ contents.entry m
unfolding entry_of
entry-at cast contents m l = get-range contents.entry (length cast.mpus) m no_entry l

copy-at : (cast : Cast) (contents : Contents) (c : ℕ) → c < length cast.copies → copy_at (broadcast_of cast contents) c ≡ copy_places cast.packets (table_copy cast c)
unfolding copy_at table_copy
copy-at cast contents c l = get-map (copy_places cast.packets) cast.copies c no_table_copy no_copy l

laid-unit : (cast : Cast) (contents : Contents) (u : ℕ) → u < length cast.units → IsSentUnit cast contents u → IsLaidUnit (broadcast_of cast contents) (layout_of cast contents) u
unfolding places_of_unit unit_sent
laid-unit cast contents u l sent =
    record {
      some = sent.some;
      low = omega (arith, sent.low);
      each = λ k lk. (let e = sent.each k lk in
          (at-is cast contents _ _ _ e.0, has-part cast contents u k _ e.1));
      members = ap (λ p. p.members) (unit-at cast contents u l);
      value = ap (λ p. p.value) (unit-at cast contents u l)
          ∙ ap (λ p. record {
            packet_id = (entry_of_unit cast contents u).packet_id;
            mpu = (entry_of_unit cast contents u).mpu;
            key = (contents.data_unit u).key;
            priority = (contents.data_unit u).priority;
            dependency = (contents.data_unit u).dependency;
            number = (sent_unit cast u).first_number;
            place = p;
            bytes = (contents.data_unit u).bytes;
          })
          (place-among cast contents u (get_or cast.packets (place_of cast.packets (entry_of_unit cast contents u).packet_id (sent_unit cast u).first_number) no_packet).carries);
      whole = sent.whole;
    }

pub laid : (cast : Cast) (contents : Contents) (names_in : List ℕ → List Entry) → IsCastOf cast contents names_in → IsLaid (broadcast_of cast contents) (layout_of cast contents)
unfolding payload_of
laid cast contents names_in right =
    record {
      payload = λ n ln. payload-is cast contents (get_or cast.packets n no_packet).packet_id (get_or cast.packets n no_packet).number (get_or cast.packets n no_packet).carries (right.packet n ln);
      placed = λ n ln. placed-is cast contents (get_or cast.packets n no_packet).packet_id (get_or cast.packets n no_packet).number (get_or cast.packets n no_packet).carries (right.packet n ln);
      unit = λ u lu. (let l : u < length cast.units = omega (arith, lu, units-many cast contents) in laid-unit cast contents u l (right.unit u l));
    }

-- the entries of the places that a copy names
entries-at : (cast : Cast) (contents : Contents) (ms : List ℕ) → AllByRecursion (λ m. m < length cast.mpus) ms → map (entry_of (broadcast_of cast contents).cast) ms ≡ map contents.entry ms
entries-at cast contents [] k = refl
entries-at cast contents (m ∷ ms) k = ap₂ (λ a b. a ∷ b) (entry-at cast contents m k.0) (entries-at cast contents ms k.1)

laid-copy : (cast : Cast) (contents : Contents) (names_in : List ℕ → List Entry) (c : ℕ) → c < length cast.copies → IsSentCopy cast contents names_in c → IsLaidCopy (broadcast_of cast contents) names_in (layout_of cast contents) c
unfolding places_of_copy
laid-copy cast contents names_in c l sent =
    record {
      some = sent.some;
      low = omega (arith, sent.low);
      each = λ k lk. (let e = sent.each k lk in
          (at-is cast contents _ _ _ e.0, has-copy-part cast contents c k (table_copy cast c).signal _ sent.own e.1));
      members = ap (λ p. p.members) (copy-at cast contents c l);
      names = ap (λ p. map (entry_of (broadcast_of cast contents).cast) p.names) (copy-at cast contents c l) ∙ (entries-at cast contents (table_copy cast c).names sent.known ∙ sent.names);
      short = sent.short;
    }

pub laid-copies : (cast : Cast) (contents : Contents) (names_in : List ℕ → List Entry) → IsCastOf cast contents names_in → AreLaidCopies (broadcast_of cast contents) names_in (layout_of cast contents)
laid-copies cast contents names_in right =
    record {
      copy = λ c lc. (let l : c < length cast.copies = omega (arith, lc, copies-many cast contents) in laid-copy cast contents names_in c l (right.copy c l));
      parameters = λ n bytes ln e. named-nothing cast contents names_in bytes (get_or cast.packets n no_packet).carries e (λ s is. right.parameters n s ln is);
    }
  where
    named-nothing : (cast : Cast) (contents : Contents) (names_in : List ℕ → List Entry) (bytes : List ℕ) (x : Carries) → holding cast contents x ≡ Holding.Parameters bytes
        → ((s : ℕ) → x ≡ carries.Parameters s → names_in (contents.message_part s 0) ≡ []) → names_in bytes ≡ []
    named-nothing cast contents names_in bytes (carries.Parameters s) e h = ap names_in (bytes-of e) ∙ h s refl
      where
        bytes-of : {a b : List ℕ} → Holding.Parameters a ≡ Holding.Parameters b → b ≡ a
        bytes-of e = cc
    named-nothing cast contents names_in bytes (carries.Whole u) e h = absurd cc
    named-nothing cast contents names_in bytes (carries.Fragment u k) e h = absurd cc
    named-nothing cast contents names_in bytes (carries.Group f c) e h = absurd cc
    named-nothing cast contents names_in bytes (carries.Table s) e h = absurd cc
    named-nothing cast contents names_in bytes (carries.TablePart s k) e h = absurd cc

distinct-unit : (cast : Cast) (contents : Contents) (names_in : List ℕ → List Entry) → IsCastOf cast contents names_in → (u : ℕ) → u < length (broadcast_of cast contents).units → (k : ℕ) → occurrences k (unit_of (broadcast_of cast contents) u).members ≤ 1
distinct-unit cast contents names_in right u lu k =
    let unit = (laid cast contents names_in right).unit u lu in
    subst (λ ms. occurrences k ms ≤ 1) (sym unit.members)
    (distinct-places (packets_of cast contents) (entry_of_unit cast contents u).packet_id (sent_unit cast u).first_number (sent_unit cast u).count k (λ i li. (unit.each i li).0))

some-places : (f : ℕ → ℕ) (a c : ℕ) → 1 ≤ c → 0 < length (map f (numbers a c))
unfolding numbers
some-places f a zero l = absurd (omega arith)
some-places f a (suc c) l = omega arith

each-range : (P : ℕ → Type 0) (f : ℕ → ℕ) (a c : ℕ) → ((i : ℕ) → i < c → P (f (a + i))) → AllByRecursion P (map f (numbers a c))
unfolding numbers
each-range P f a zero h = tt
each-range P f a (suc c) h = (
  subst (λ i. P (f i)) (let z : a + 0 ≡ a = omega arith in z) (h 0 (omega arith)),
  each-range P f (a + 1) c (λ i l. subst (λ j. P (f j)) (let e : a + suc i ≡ a + 1 + i = omega arith in e) (h (suc i) (omega arith))),
)

pub each-of-map : {X Y : Type 0} (P : Y → Type 0) (f : X → Y) (xs : List X) (d : X) → ((i : ℕ) → i < length xs → P (f (get_or xs i d))) → AllByRecursion P (map f xs)
each-of-map P f [] d h = tt
each-of-map P f (x ∷ xs) d h = (h 0 (omega arith), each-of-map P f xs d (λ i l. h (suc i) (omega arith)))

-- a unit has the packet id and the number of its MPU
same-id : (cast : Cast) (contents : Contents) (u : ℕ) → u < length cast.units → mpu_of cast u < length cast.mpus
    → ((unit_of (broadcast_of cast contents) u).value).packet_id ≡ (entry_of (broadcast_of cast contents).cast (unit_of (broadcast_of cast contents) u).mpu).packet_id
unfolding unit_sent entry_of_unit
same-id cast contents u l k =
    ap (λ p. p.value.packet_id) (unit-at cast contents u l)
    ∙ sym (ap (λ p. (entry_of (broadcast_of cast contents).cast p.mpu).packet_id) (unit-at cast contents u l) ∙ ap (λ e. e.packet_id) (entry-at cast contents (mpu_of cast u) k))

same-mpu : (cast : Cast) (contents : Contents) (u : ℕ) → u < length cast.units → mpu_of cast u < length cast.mpus
    → ((unit_of (broadcast_of cast contents) u).value).mpu ≡ (entry_of (broadcast_of cast contents).cast (unit_of (broadcast_of cast contents) u).mpu).mpu
unfolding unit_sent entry_of_unit
same-mpu cast contents u l k =
    ap (λ p. p.value.mpu) (unit-at cast contents u l)
    ∙ sym (ap (λ p. (entry_of (broadcast_of cast contents).cast p.mpu).mpu) (unit-at cast contents u l) ∙ ap (λ e. e.mpu) (entry-at cast contents (mpu_of cast u) k))

pub formed : (cast : Cast) (contents : Contents) (names_in : List ℕ → List Entry) → IsCastOf cast contents names_in → IsApart (packets_of cast contents) → IsWellFormed (broadcast_of cast contents) names_in
unfolding places_of_unit places_of_copy table_copy
formed cast contents names_in right apart =
    let b : Broadcast = broadcast_of cast contents in
    let l : Layout = layout_of cast contents in
    let ld = laid cast contents names_in right in
    let below = λ (u : ℕ) (lu : u < length b.units). (let x : u < length cast.units = omega (arith, lu, units-many cast contents) in x) in
    record {
      starts = λ n. starts_by (l.holds n);
      head = heads b l;
      tail = tails b l;
      cut = cut b l apart ld (distinct-unit cast contents names_in right);
      tables = tables b names_in l apart ld (laid-copies cast contents names_in right);
      one_mpu = λ m k lm lk e f. (
          let lm' : m < length cast.mpus = omega (arith, lm, mpus-many cast contents) in
          let lk' : k < length cast.mpus = omega (arith, lk, mpus-many cast contents) in
          right.mpus_differ m k lm' lk'
          (ap (λ x. x.packet_id) (sym (entry-at cast contents m lm')) ∙ (e ∙ ap (λ x. x.packet_id) (entry-at cast contents k lk')))
          (ap (λ x. x.mpu) (sym (entry-at cast contents m lm')) ∙ (f ∙ ap (λ x. x.mpu) (entry-at cast contents k lk'))));
      unit_mpu = λ u lu. subst (λ p. p.mpu < length b.cast.mpus) (sym (unit-at cast contents u (below u lu))) (omega (arith, (right.unit u (below u lu)).known, mpus-many cast contents));
      unit_id = λ u lu. same-id cast contents u (below u lu) (right.unit u (below u lu)).known;
      unit_number = λ u lu. same-mpu cast contents u (below u lu) (right.unit u (below u lu)).known;
      unit_some = λ u lu. subst (λ p. 0 < length p.members) (sym (unit-at cast contents u (below u lu))) (some-places (place_of cast.packets (entry_of_unit cast contents u).packet_id) (sent_unit cast u).first_number (sent_unit cast u).count (right.unit u (below u lu)).some);
      unit_of_cast = λ u lu. subst (λ p. AllByRecursion (λ n. n < length cast.packets) p.members) (sym (unit-at cast contents u (below u lu)))
          (each-range (λ n. n < length cast.packets) (place_of cast.packets (entry_of_unit cast contents u).packet_id) (sent_unit cast u).first_number (sent_unit cast u).count
          (λ i li. ((right.unit u (below u lu)).each i li).0.of));
      copy_some = each-of-map (λ c. 0 < length c.members) (copy_places cast.packets) cast.copies no_table_copy
          (λ c lc. some-places (place_of cast.packets 0) (get_or cast.copies c no_table_copy).first_number (get_or cast.copies c no_table_copy).count (right.copy c lc).some);
      copy_of_cast = each-of-map (λ c. AllByRecursion (λ n. n < length cast.packets) c.members) (copy_places cast.packets) cast.copies no_table_copy
          (λ c lc. each-range (λ n. n < length cast.packets) (place_of cast.packets 0) (get_or cast.copies c no_table_copy).first_number (get_or cast.copies c no_table_copy).count (λ i li. ((right.copy c lc).each i li).0.of));
      copy_names = each-of-map (λ c. AllByRecursion (λ m. m < length b.cast.mpus) c.names) (copy_places cast.packets) cast.copies no_table_copy
          (λ c lc. subst (λ k. AllByRecursion (λ m. m < k) (get_or cast.copies c no_table_copy).names) (sym (mpus-many cast contents)) (right.copy c lc).known);
    }
