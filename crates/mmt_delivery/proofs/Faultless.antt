-- A cast without a fault, with its contents, is admitted in the form that the proofs want.
use Rattle.std.proofs.Common.{◌≡◌, ℕ, ◌+◌, ◌^◌, ◌<◌, ◌≤◌, zero, suc, Bool, true, false, not, ◌&&◌, ◌||◌, ◌==◌, nat_lt, nat_le, cond, if◌then◌else◌, max, min, List, [], ◌∷◌, map, length, get_or, arith, refl, ap, ap₂, sym, ◌∙◌, ⊎_elim, subst, count_by, Option, Some, None}
use Rattle.std.specs.List.{list_any}
use Rattle.std.proofs.lemmas.Bool.Decides.{nat_tests}
use Rattle.std.proofs.lemmas.Bool.{cases_eq, eq-eqb, eqb-true, and_parts, and_from, ltb-true, leb-true, cases_lt}
use Rattle.std.proofs.lemmas.List.Sums.{sum_by-cons}
use Rattle.std.specs.List.{AllByRecursion}
use Rattle.mmt_base.specs.Ticks.{due_of}
use Rattle.mmt_base.specs.declared.ticks.LongTick.{LongTick}
use Rattle.mmt_delivery.proofs.Admitted.{IsAdmitted, IsTimelyCopy, first_at}
use Rattle.mmt_delivery.proofs.Carried.{each-of-map, entry-at, mpus-many, unit-at, units-many}
use Rattle.mmt_delivery.proofs.Finding.{found}
use Rattle.mmt_delivery.proofs.Outs.{last}
use Rattle.mmt_delivery.proofs.Premises.{count_below, is_named_from, last_at}
use Rattle.mmt_model.proofs.Preceding.{before-through}
use Rattle.mmt_model.specs.Admission.{Fault, count_before, fault, fault_of_copy, fault_of_gap, fault_of_key, fault_of_live, fault_of_load, fault_of_mpu, fault_of_name, fault_of_number, fault_of_params, fault_of_start, fault_of_unit, first_among, first_below, is_named_by, is_of_one_mpu, live_at, or_else, unless}
use Rattle.mmt_model.specs.Broadcast.{NamedCast, due_at, due_of_unit, entry_of, presentation_of, unit_of}
use Rattle.mmt_model.specs.Carrying.{Contents, IsCastOf, IsSentCopy, IsSentUnit, broadcast_of, copy_places, entry_of_unit, first_of_places, last_of_places, least_with, mpu_of, mpu_place, named_from_of, no_sent_mpu, no_table_copy, places_of_copy, places_of_unit, sent_mpu, sent_unit, table_copy, tick_of, unit_sent}
use Rattle.mmt_model.specs.Counts.{member}
use Rattle.mmt_model.specs.Entries.{Entry, last_due}
use Rattle.mmt_model.specs.Handing.{key_numbers, precedes, time_for, time_of}
use Rattle.mmt_model.specs.Survival.{sent_at}
use Rattle.mmt_model.specs.declared.casts.Cast.{Cast}
use Rattle.mmt_model.specs.declared.casts.SentMpu.{SentMpu}
use Rattle.mmt_model.specs.declared.casts.TableCopy.{TableCopy}
use Rattle.mmt_model.specs.declared.programmes.Params.{Params}

none-first : (a b : Option Fault) → or_else a b ≡ None → a ≡ None
none-first None b e = refl
none-first (Some f) b e = absurd cc

none-later : (a b : Option Fault) → or_else a b ≡ None → b ≡ None
none-later None b e = e
none-later (Some f) b e = absurd cc

none-unless : (t : Bool) (rule number found allowed : ℕ) → unless t rule number found allowed ≡ None → t ≡ true
none-unless true rule number found allowed e = refl
none-unless false rule number found allowed e = absurd cc

none-below : (f : ℕ → Option Fault) (n i : ℕ) → first_below f n ≡ None → i < n → f i ≡ None
unfolding first_below
none-below f zero i e l = absurd (omega arith)
none-below f (suc n) i e l =
    ⊎_elim
    (λ (same : i ≡ n). ap f same ∙ none-later (first_below f n) (f n) e)
    (λ (ne : i ≡ n → ⊥). none-below f n i (none-first (first_below f n) (f n) e) (⊎_elim (λ (lt : i < n). lt) (λ (ge : n ≤ i). absurd (ne (omega arith))) (cases_lt i n)))
    (cases_eq i n)

none-among : (f : ℕ → Option Fault) (ms : List ℕ) → first_among f ms ≡ None → AllByRecursion (λ m. f m ≡ None) ms
unfolding first_among
none-among f [] e = tt
none-among f (m ∷ ms) e = (none-first (f m) (first_among f ms) e, none-among f ms (none-later (f m) (first_among f ms) e))

-- what a cast without a fault has
pub record IsFaultless (cast : Cast) : Type 0 where
  pub params : fault_of_params cast.params ≡ None
  pub gap : (n : ℕ) → n < length cast.packets → fault_of_gap cast.packets n ≡ None
  pub number : (n : ℕ) → n < length cast.packets → fault_of_number cast.packets n ≡ None
  pub unit : (u : ℕ) → u < length cast.units → fault_of_unit cast u ≡ None
  pub copy : (c : ℕ) → c < length cast.copies → fault_of_copy cast c ≡ None
  pub load : (n : ℕ) → n < length cast.packets → fault_of_load cast n ≡ None
  pub live : (c : ℕ) → c < length cast.copies → fault_of_live cast c ≡ None
  pub key : (u : ℕ) → u < length cast.units → fault_of_key cast u ≡ None
  pub mpu : (m : ℕ) → m < length cast.mpus → fault_of_mpu cast m ≡ None

pub faultless : (cast : Cast) → fault cast ≡ None → IsFaultless cast
unfolding fault
faultless cast e1 =
    let e2 = none-later (fault_of_params cast.params) _ e1 in
    let e3 = none-later (first_below (fault_of_gap cast.packets) (length cast.packets)) _ e2 in
    let e4 = none-later (first_below (fault_of_number cast.packets) (length cast.packets)) _ e3 in
    let e5 = none-later (first_below (fault_of_unit cast) (length cast.units)) _ e4 in
    let e6 = none-later (first_below (fault_of_copy cast) (length cast.copies)) _ e5 in
    let e7 = none-later (first_below (fault_of_load cast) (length cast.packets)) _ e6 in
    let e8 = none-later (first_below (fault_of_live cast) (length cast.copies)) _ e7 in
    let e9 = none-later (first_below (fault_of_key cast) (length cast.units)) _ e8 in
    let e10 = none-later (fault_of_start cast.packets) _ e9 in
    record {
      params = none-first (fault_of_params cast.params) _ e1;
      gap = λ n l. none-below (fault_of_gap cast.packets) (length cast.packets) n (none-first _ _ e2) l;
      number = λ n l. none-below (fault_of_number cast.packets) (length cast.packets) n (none-first _ _ e3) l;
      unit = λ n l. none-below (fault_of_unit cast) (length cast.units) n (none-first _ _ e4) l;
      copy = λ n l. none-below (fault_of_copy cast) (length cast.copies) n (none-first _ _ e5) l;
      load = λ n l. none-below (fault_of_load cast) (length cast.packets) n (none-first _ _ e6) l;
      live = λ n l. none-below (fault_of_live cast) (length cast.copies) n (none-first _ _ e7) l;
      key = λ n l. none-below (fault_of_key cast) (length cast.units) n (none-first _ _ e8) l;
      mpu = λ n l. none-below (fault_of_mpu cast) (length cast.mpus) n e10 l;
    }

pub record HasRightValues (p : Params) : Type 0 where
  pub delay : 1 ≤ p.delay
  pub window : p.delay < p.window
  pub widest : p.window ≤ 2 ^ 24

right-values : (p : Params) → fault_of_params p ≡ None → HasRightValues p
unfolding fault_of_params
right-values p e1 =
    let e2 = none-later (unless (nat_le 1 p.delay) 1 0 p.delay 1) _ e1 in
    let e3 = none-later (unless (nat_lt p.delay p.window) 1 1 p.window (p.delay + 1)) _ e2 in
    let a = none-unless (nat_le 1 p.delay) 1 0 p.delay 1 (none-first _ _ e1) in
    let b = none-unless (nat_lt p.delay p.window) 1 1 p.window (p.delay + 1) (none-first _ _ e2) in
    let c = none-unless (nat_le p.window 16777216) 1 2 p.window 16777216 (none-first _ _ e3) in
    record { delay = leb-true 1 p.delay a; window = ltb-true p.delay p.window b; widest = leb-true p.window 16777216 c }

pub last-is : (cast : NamedCast) (ns : List ℕ) → last_at cast ns ≡ last_of_places cast.packets.sent ns
unfolding last_at last_of_places
last-is cast [] = refl
last-is cast (n ∷ ns) = ap (max (sent_at cast.packets.sent n)) (last-is cast ns)

first-is : (cast : NamedCast) (ns : List ℕ) → first_at cast ns ≡ first_of_places cast.packets.sent ns
unfolding first_at first_of_places
first-is cast [] = refl
first-is cast (n ∷ []) = refl
first-is cast (n ∷ m ∷ ns) = ap (min (sent_at cast.packets.sent n)) (first-is cast (m ∷ ns))

-- the due tick of a unit
due-is : (cast : Cast) (contents : Contents) (u : ℕ) → u < length cast.units → IsSentUnit cast contents u → due_of_unit (broadcast_of cast contents) u ≡ (sent_unit cast u).due.0
unfolding due_of_unit presentation_of time_of unit_sent entry_of_unit
due-is cast contents u l sent =
    ap (λ p. due_of (time_for 1 (entry_of (broadcast_of cast contents).cast p.mpu) p.value.key)) (unit-at cast contents u l)
    ∙ (ap (λ e. due_of (time_for 1 e (contents.data_unit u).key)) (entry-at cast contents (mpu_of cast u) sent.known)
    ∙ (ap (λ k. due_of (time_for 1 (contents.entry (mpu_of cast u)) k)) sent.key
    ∙ (ap due_of (sym sent.time) ∙ sym sent.due)))

timely-is : (cast : Cast) (contents : Contents) (u : ℕ) → u < length cast.units → IsSentUnit cast contents u → fault_of_unit cast u ≡ None
    → (last_at (broadcast_of cast contents).cast (unit_of (broadcast_of cast contents) u).members + cast.params.delay < due_of_unit (broadcast_of cast contents) u)
    × (due_of_unit (broadcast_of cast contents) u ≤ first_at (broadcast_of cast contents).cast (unit_of (broadcast_of cast contents) u).members + cast.params.window)
unfolding fault_of_unit
timely-is cast contents u l sent e =
    let a = ltb-true ((sent_unit cast u).last.0 + cast.params.delay) (sent_unit cast u).due.0 (none-unless (nat_lt ((sent_unit cast u).last.0 + cast.params.delay) (sent_unit cast u).due.0) 4 u _ _ (none-first _ _ e)) in
    let b = leb-true (sent_unit cast u).due.0 ((sent_unit cast u).first.0 + cast.params.window) (none-unless (nat_le (sent_unit cast u).due.0 ((sent_unit cast u).first.0 + cast.params.window)) 4 u _ _ (none-later _ _ e)) in
    let d = due-is cast contents u l sent in
    let x : last_at (broadcast_of cast contents).cast (unit_of (broadcast_of cast contents) u).members ≡ (sent_unit cast u).last.0 =
    ap (λ p. last_at (broadcast_of cast contents).cast p.members) (unit-at cast contents u l) ∙ (last-is (broadcast_of cast contents).cast (places_of_unit cast contents u) ∙ sym sent.last) in
    let y : first_at (broadcast_of cast contents).cast (unit_of (broadcast_of cast contents) u).members ≡ (sent_unit cast u).first.0 =
    ap (λ p. first_at (broadcast_of cast contents).cast p.members) (unit-at cast contents u l) ∙ (first-is (broadcast_of cast contents).cast (places_of_unit cast contents u) ∙ sym sent.first) in
    (omega (arith, a, d, x), omega (arith, b, d, y))

-- how many pass, counted over places and over a list
count-front : (q : ℕ → Bool) (n : ℕ) → count_below q (suc n) ≡ (if q 0 then 1 else 0) + count_below (λ i. q (suc i)) n
unfolding count_below
count-front q zero = omega arith
count-front q (suc n) = omega (arith, count-front q n)

count-list : {X : Type 0} (q : ℕ → Bool) (p : X → Bool) (xs : List X) (d : X) → ((i : ℕ) → i < length xs → q i ≡ p (get_or xs i d)) → count_below q (length xs) ≡ count_by p xs
unfolding count_below
count-list q p [] d h = refl
count-list {X} q p (x ∷ xs) d h =
    count-front q (length xs)
    ∙ (let e : cond (q 0) 1 0 ≡ cond (p x) 1 0 = ap {B = ℕ} (λ b. cond b 1 0) (h 0 (omega arith)) in
    omega (arith, e, sum_by-cons (λ (y : X). cond (p y) 1 0) x xs, count-list (λ i. q (suc i)) p xs d (λ i l. h (suc i) (omega arith))))

-- an MPU is named from the least tick at which a copy that names it ends
named-by : ℕ → Option ℕ → Bool
named-by tick None = false
named-by tick (Some from) = nat_le from tick

named-least : (tick m : ℕ) (cs : List TableCopy) → named-by tick (named_from_of m cs) ≡ list_any (λ c. member m c.names && nat_le c.last.0 tick) cs
unfolding named_from_of named-by
named-least tick m [] = refl
named-least tick m (c ∷ cs) = go (member m c.names) (named_from_of m cs) (named-least tick m cs)
  where
    go : (b : Bool) (o : Option ℕ) → named-by tick o ≡ list_any (λ c. member m c.names && nat_le c.last.0 tick) cs
        → named-by tick (cond b (Some (least_with c.last.0 o)) o) ≡ ((b && nat_le c.last.0 tick) || list_any (λ c. member m c.names && nat_le c.last.0 tick) cs)
    go false o ih = ih
    go true None ih = sym (or-false (nat_le c.last.0 tick)) ∙ ap (λ b. nat_le c.last.0 tick || b) ih
      where
        or-false : (b : Bool) → (b || false) ≡ b
        or-false true = refl
        or-false false = refl
    go true (Some f) ih = (let e : nat_le (min c.last.0 f) tick ≡ (nat_le c.last.0 tick || nat_le f tick) = grind (arith, nat_tests) in e) ∙ ap (λ b. nat_le c.last.0 tick || b) ih

named-option : (tick : ℕ) (o : Option LongTick) → is_named_by tick o ≡ named-by tick (tick_of o)
unfolding named-by
named-option tick None = refl
named-option tick (Some t) = refl

any-map : {X Y : Type 0} (q : Y → Bool) (f : X → Y) (xs : List X) → list_any q (map f xs) ≡ list_any (λ x. q (f x)) xs
any-map q f [] = refl
any-map q f (x ∷ xs) = ap (λ b. q (f x) || b) (any-map q f xs)

any-each : {X : Type 0} (p q : X → Bool) (xs : List X) (d : X) → ((i : ℕ) → i < length xs → p (get_or xs i d) ≡ q (get_or xs i d)) → list_any p xs ≡ list_any q xs
any-each p q [] d h = refl
any-each p q (x ∷ xs) d h = ap₂ (λ a b. a || b) (h 0 (omega arith)) (any-each p q xs d (λ i l. h (suc i) (omega arith)))

copy-last : (cast : Cast) (contents : Contents) (names_in : List ℕ → List Entry) (c : ℕ) → IsSentCopy cast contents names_in c
    → last_at (broadcast_of cast contents).cast (places_of_copy cast.packets (table_copy cast c)) ≡ (table_copy cast c).last.0
copy-last cast contents names_in c sent = last-is (broadcast_of cast contents).cast (places_of_copy cast.packets (table_copy cast c)) ∙ sym sent.last

named-is : (cast : Cast) (contents : Contents) (names_in : List ℕ → List Entry) (tick m : ℕ) → IsCastOf cast contents names_in → m < length cast.mpus
    → is_named_from (broadcast_of cast contents).cast tick m ≡ is_named_by tick (sent_mpu cast m).named_from
unfolding is_named_from table_copy
named-is cast contents names_in tick m right l =
    any-map (λ c. member m c.names && nat_le (last_at (broadcast_of cast contents).cast c.members) tick) (copy_places cast.packets) cast.copies
    ∙ (any-each (λ c. member m c.names && nat_le (last_at (broadcast_of cast contents).cast (places_of_copy cast.packets c)) tick) (λ c. member m c.names && nat_le c.last.0 tick) cast.copies no_table_copy
    (λ i li. ap (λ t. member m (table_copy cast i).names && nat_le t tick) (copy-last cast contents names_in i (right.copy i li)))
    ∙ (sym (named-least tick m cast.copies)
    ∙ (ap (named-by tick) (sym (right.named_from m l)) ∙ sym (named-option tick (sent_mpu cast m).named_from))))

due-at-is : (cast : Cast) (contents : Contents) (names_in : List ℕ → List Entry) (m : ℕ) → IsCastOf cast contents names_in → m < length cast.mpus
    → due_at (broadcast_of cast contents).cast m ≡ (sent_mpu cast m).last.0
unfolding due_at
due-at-is cast contents names_in m right l = ap last_due (entry-at cast contents m l) ∙ sym (right.mpu_last m l)

few-is : (cast : Cast) (contents : Contents) (names_in : List ℕ → List Entry) (tick : ℕ) → IsCastOf cast contents names_in → live_at cast.mpus tick ≤ 1024
    → count_below (λ m. is_named_from (broadcast_of cast contents).cast tick m && nat_lt tick (due_at (broadcast_of cast contents).cast m)) (length (broadcast_of cast contents).cast.mpus) ≤ 1024
unfolding live_at
few-is cast contents names_in tick right le =
    let q : ℕ → Bool = λ m. is_named_from (broadcast_of cast contents).cast tick m && nat_lt tick (due_at (broadcast_of cast contents).cast m) in
    let e : count_below q (length cast.mpus) ≡ count_by (λ m. is_named_by tick m.named_from && nat_lt tick m.last.0) cast.mpus =
    count-list q (λ m. is_named_by tick m.named_from && nat_lt tick m.last.0) cast.mpus no_sent_mpu
    (λ i l. ap₂ (λ a b. a && nat_lt tick b) (named-is cast contents names_in tick i right l) (due-at-is cast contents names_in i right l)
    ∙ (unfold sent_mpu in refl)) in
    subst (λ n. count_below q n ≤ 1024) (sym (mpus-many cast contents)) (omega (arith, e, le))

early-each : (cast : Cast) (contents : Contents) (names_in : List ℕ → List Entry) (c : ℕ) (last first : ℕ) → IsCastOf cast contents names_in
    → last ≡ (table_copy cast c).last.0 → first ≡ (table_copy cast c).first.0 → (ms : List ℕ) → AllByRecursion (λ m. m < length cast.mpus) ms → AllByRecursion (λ m. fault_of_name cast c m ≡ None) ms
    → AllByRecursion (λ m. (last + cast.params.delay < due_at (broadcast_of cast contents).cast m) × (due_at (broadcast_of cast contents).cast m ≤ first + 2 ^ 30)) ms
unfolding fault_of_name
early-each cast contents names_in c last first right el ef [] k n = tt
early-each cast contents names_in c last first right el ef (m ∷ ms) k n =
    let a = ltb-true ((table_copy cast c).last.0 + cast.params.delay) (sent_mpu cast m).last.0 (none-unless (nat_lt ((table_copy cast c).last.0 + cast.params.delay) (sent_mpu cast m).last.0) 5 c _ _ (none-first _ _ n.0)) in
    let b = leb-true (sent_mpu cast m).last.0 ((table_copy cast c).first.0 + 1073741824) (none-unless (nat_le (sent_mpu cast m).last.0 ((table_copy cast c).first.0 + 1073741824)) 5 c _ _ (none-later _ _ n.0)) in
    let d = due-at-is cast contents names_in m right k.0 in
    ((omega (arith, a, d, el), omega (arith, b, d, ef)), early-each cast contents names_in c last first right el ef ms k.1 n.1)

timely-copy : (cast : Cast) (contents : Contents) (names_in : List ℕ → List Entry) (c : ℕ) → IsCastOf cast contents names_in → c < length cast.copies → fault_of_copy cast c ≡ None → fault_of_live cast c ≡ None
    → IsTimelyCopy (broadcast_of cast contents).cast cast.params (copy_places cast.packets (table_copy cast c))
unfolding fault_of_copy fault_of_live
timely-copy cast contents names_in c right l e f =
    let sent = right.copy c l in
    let x : last_at (broadcast_of cast contents).cast (places_of_copy cast.packets (table_copy cast c)) ≡ (table_copy cast c).last.0 = copy-last cast contents names_in c sent in
    let y : first_at (broadcast_of cast contents).cast (places_of_copy cast.packets (table_copy cast c)) ≡ (table_copy cast c).first.0 =
    first-is (broadcast_of cast contents).cast (places_of_copy cast.packets (table_copy cast c)) ∙ sym sent.first in
    let s = ltb-true ((table_copy cast c).last.0 + cast.params.delay) ((table_copy cast c).first.0 + cast.params.window) (none-unless (nat_lt ((table_copy cast c).last.0 + cast.params.delay) ((table_copy cast c).first.0 + cast.params.window)) 5 c _ _ (none-later _ _ e)) in
    let v = leb-true (live_at cast.mpus (table_copy cast c).last.0) 1024 (none-unless (nat_le (live_at cast.mpus (table_copy cast c).last.0) 1024) 7 c _ _ f) in
    record {
      early = early-each cast contents names_in c _ _ right x y (table_copy cast c).names sent.known (none-among (fault_of_name cast c) (table_copy cast c).names (none-first _ _ e));
      short = omega (arith, s, x, y);
      few = subst (λ t. count_below (λ m. is_named_from (broadcast_of cast contents).cast t m && nat_lt t (due_at (broadcast_of cast contents).cast m)) (length (broadcast_of cast contents).cast.mpus) ≤ 1024) (sym x)
          (few-is cast contents names_in (table_copy cast c).last.0 right v);
    }

-- the MPU at a place stands there in the programme
pub record IsMpuAt (ms : List SentMpu) (n asset mpu : ℕ) : Type 0 where
  pub asset_is : (get_or ms n no_sent_mpu).asset ≡ asset
  pub mpu_is : (get_or ms n no_sent_mpu).mpu ≡ mpu

found-mpu : (ms : List SentMpu) (asset mpu : ℕ) → mpu_place ms asset mpu < length ms → IsMpuAt ms (mpu_place ms asset mpu) asset mpu
unfolding mpu_place
found-mpu [] asset mpu l = absurd (omega arith)
found-mpu (m ∷ ms) asset mpu l = go ((m.asset == asset) && (m.mpu == mpu)) refl l (λ h. found-mpu ms asset mpu h)
  where
    go : (b : Bool) → ((m.asset == asset) && (m.mpu == mpu)) ≡ b → cond b 0 (suc (mpu_place ms asset mpu)) < suc (length ms) → (mpu_place ms asset mpu < length ms → IsMpuAt ms (mpu_place ms asset mpu) asset mpu)
        → IsMpuAt (m ∷ ms) (cond b 0 (suc (mpu_place ms asset mpu))) asset mpu
    go true e h ih = let p = and_parts (m.asset == asset) (m.mpu == mpu) e in record { asset_is = eqb-true m.asset asset p.0; mpu_is = eqb-true m.mpu mpu p.1 }
    go false e h ih = let r = ih (omega (arith, h)) in record { asset_is = r.asset_is; mpu_is = r.mpu_is }

-- keys rise in each MPU
one-mpu : (cast : Cast) (u v : ℕ) → mpu_of cast u < length cast.mpus → mpu_of cast u ≡ mpu_of cast v → is_of_one_mpu (sent_unit cast u) (sent_unit cast v) ≡ true
unfolding mpu_of is_of_one_mpu
one-mpu cast u v l e =
    let a = found-mpu cast.mpus (sent_unit cast u).asset (sent_unit cast u).mpu l in
    let b = found-mpu cast.mpus (sent_unit cast v).asset (sent_unit cast v).mpu (subst (λ n. n < length cast.mpus) e l) in
    and_from _ _
    (eq-eqb _ _ (sym a.asset_is ∙ (ap (λ n. (get_or cast.mpus n no_sent_mpu).asset) e ∙ b.asset_is)))
    (eq-eqb _ _ (sym a.mpu_is ∙ (ap (λ n. (get_or cast.mpus n no_sent_mpu).mpu) e ∙ b.mpu_is)))

key-step : (cast : Cast) (u : ℕ) → fault_of_key cast (suc u) ≡ None → is_of_one_mpu (sent_unit cast u) (sent_unit cast (suc u)) ≡ true
    → precedes (key_numbers (sent_unit cast u).key) (key_numbers (sent_unit cast (suc u)).key) ≡ true
unfolding fault_of_key
key-step cast u e same =
    let h = none-unless (not (is_of_one_mpu (sent_unit cast u) (sent_unit cast (suc u))) || precedes (key_numbers (sent_unit cast u).key) (key_numbers (sent_unit cast (suc u)).key)) 8 (suc u) _ _ e in
    let g = rw same at h in g

keys-rise : (cast : Cast) (contents : Contents) (names_in : List ℕ → List Entry) → IsCastOf cast contents names_in → IsFaultless cast → (u v : ℕ) → u < v → v < length cast.units → mpu_of cast u ≡ mpu_of cast v
    → precedes (key_numbers (sent_unit cast u).key) (key_numbers (sent_unit cast v).key) ≡ true
keys-rise cast contents names_in right ok u zero lt l e = absurd (omega arith)
keys-rise cast contents names_in right ok u (suc w) lt l e =
    ⊎_elim
    (λ (same : u ≡ w).
    let e' : mpu_of cast w ≡ mpu_of cast (suc w) = ap (mpu_of cast) (sym same) ∙ e in
    subst (λ x. precedes (key_numbers (sent_unit cast x).key) (key_numbers (sent_unit cast (suc w)).key) ≡ true) (sym same)
    (key-step cast w (ok.key (suc w) l) (one-mpu cast w (suc w) (right.unit w (omega arith)).known e')))
    (λ (ne : u ≡ w → ⊥).
    let lw : u < w = ⊎_elim (λ (a : u < w). a) (λ (ge : w ≤ u). absurd (ne (omega arith))) (cases_lt u w) in
    let m : mpu_of cast w ≡ mpu_of cast u = right.side_by_side u w (suc w) lw (omega arith) l e in
    before-through (key_numbers (sent_unit cast u).key) (key_numbers (sent_unit cast w).key) (key_numbers (sent_unit cast (suc w)).key)
    (keys-rise cast contents names_in right ok u w lw (omega arith) (sym m))
    (key-step cast w (ok.key (suc w) l) (one-mpu cast w (suc w) (right.unit w (omega arith)).known (m ∙ e))))
    (cases_eq u w)

key-is : (cast : Cast) (contents : Contents) (u : ℕ) → u < length cast.units → IsSentUnit cast contents u → ((unit_of (broadcast_of cast contents) u).value).key ≡ (sent_unit cast u).key
unfolding unit_sent
key-is cast contents u l sent = ap (λ p. p.value.key) (unit-at cast contents u l) ∙ sent.key

pub admitted : (cast : Cast) (contents : Contents) (names_in : List ℕ → List Entry) → fault cast ≡ None → IsCastOf cast contents names_in → IsAdmitted (broadcast_of cast contents) cast.params
unfolding fault_of_number count_before fault_of_load table_copy
admitted cast contents names_in e right =
    let ok = faultless cast e in
    let values = right-values cast.params ok.params in
    let below = λ (u : ℕ) (lu : u < length (broadcast_of cast contents).units). (let x : u < length cast.units = omega (arith, lu, units-many cast contents) in x) in
    record {
      delay = values.delay;
      window = values.window;
      widest = values.widest;
      numbered = λ n l. eqb-true _ _ (none-unless _ 3 n _ _ (ok.number n l));
      timely = λ u l. timely-is cast contents u (below u l) (right.unit u (below u l)) (ok.unit u (below u l));
      copies = each-of-map (IsTimelyCopy (broadcast_of cast contents).cast cast.params) (copy_places cast.packets) cast.copies no_table_copy (λ c l. timely-copy cast contents names_in c right l (ok.copy c l) (ok.live c l));
      loads = λ n l. leb-true _ _ (none-unless _ 6 n _ _ (ok.load n l));
      keys = λ u v lt l same. (
          let lv = below v l in
          let lu : u < length cast.units = omega (arith, lt, lv) in
          let m : mpu_of cast u ≡ mpu_of cast v = ap (λ p. p.mpu) (sym (unit-at cast contents u lu)) ∙ (same ∙ ap (λ p. p.mpu) (unit-at cast contents v lv)) in
          ap₂ (λ a b. precedes (key_numbers a) (key_numbers b)) (key-is cast contents u lu (right.unit u lu)) (key-is cast contents v lv (right.unit v lv))
          ∙ keys-rise cast contents names_in right ok u v lt lv m);
    }
