-- Where each packet comes once and in its order, all units are expected.
use Rattle.std.proofs.Common.{◌≡◌, inl, inr, ℕ, zero, suc, ◌+◌, ◌<◌, ◌≤◌, Bool, true, false, ◌&&◌, ◌==◌, nat_lt, cond, List, [], ◌∷◌, map, length, get_or, Option, Some, None, arith, refl, ap, sym, subst, ◌∙◌}
use Rattle.std.specs.List.{AllByRecursion, filter, list_any}
use Rattle.std.proofs.lemmas.Bool.{and_from, eq-eqb, ltb-true, or_right}
use Rattle.mmt_base.specs.Ticks.{due_of}
use Rattle.mmt_base.specs.declared.ticks.LongTick.{LongTick}
use Rattle.mmt_cast.proofs.Listing.{IsIn, each-at, each-weaker, in-at}
use Rattle.mmt_cast.proofs.Reading.{entry-of-unit, length-mpus, length-units, mpu-of, mpu-sent, placed-unit}
use Rattle.mmt_cast.specs.Casting.{cast_of, due_of_placed, least, mpu_as_sent, time_of_unit}
use Rattle.mmt_cast.specs.Placing.{PlacedUnit, all_units, entry_of_mpu}
use Rattle.mmt_cast.specs.Right.{contents_of, mpu_at, no_placed_unit, unit_at}
use Rattle.mmt_delivery.proofs.Admitted.{IsWellFormed}
use Rattle.mmt_delivery.proofs.Carried.{copies-many, entry-at, formed, get-map, unit-at, units-many}
use Rattle.mmt_delivery.proofs.Admitting.{apart}
use Rattle.mmt_delivery.proofs.Faultless.{IsFaultless, admitted, faultless}
use Rattle.mmt_delivery.proofs.Laid.{no_copy}
use Rattle.mmt_model.specs.Admission.{fault_of_mpu, fault_of_naming}
use Rattle.mmt_model.specs.Broadcast.{Broadcast, CopyPlaces, due_of_unit, entry_of, presentation_of, unit_of}
use Rattle.mmt_model.specs.Carrying.{Contents, IsCastOf, broadcast_of, copy_places, entry_of_unit, last_of_places, mpu_of, no_table_copy, places_of_copy, sent_mpu, table_copy, tick_of, unit_places, unit_sent}
use Rattle.mmt_model.specs.Counts.{member}
use Rattle.mmt_model.specs.Delivery.{NearDelivery, newest_first}
use Rattle.mmt_model.specs.Entries.{Entry}
use Rattle.mmt_model.specs.Expected.{expected, is_complete, is_counted, is_expected, places}
use Rattle.mmt_model.specs.Handing.{is_presented_before, time_for, time_of}
use Rattle.mmt_model.specs.Received.{expected_in, tuned_places}
use Rattle.mmt_model.specs.Sorted.{sort_by}
use Rattle.mmt_model.specs.declared.casts.Cast.{Cast}
use Rattle.mmt_model.specs.declared.casts.SentMpu.{SentMpu}
use Rattle.mmt_model.specs.declared.programmes.Programme.{Programme}
use Rattle.mmt_naming.specs.Findings.{names_in}
use Rattle.mmt_io.specs.History.{bytes_written}
use Rattle.mmt_output.specs.Records.{records}
use Rattle.mmt_io.specs.Output.{IsPrefix}
use Rattle.mmt_sent.specs.Messages.{message_bytes}
use Rattle.mmt_sent.specs.Stream.{contents_sent, stream}
use Rattle.mmt_headline.proofs.InOrder.{IsNamedAt, Rise, complete-down, counted-down, down, down-is, filter-all, named-at, near-in-order, none-unless, numbers-of, places-below, rise-of, start-of, starts, tuned-in-order}
use Rattle.mmt_headline.proofs.Sound.{casts-carry}
use Rattle.mmt_headline.specs.GivesBack.{TakeGivesBack}
use Rattle.mmt_headline.specs.Programmes.{IsSendable}
use Rattle.mmt_headline.specs.WholeCasts.{IsWhole, TakeGivesAllBack, UnitsArePresented, WholeCastsAreExpected, all_presented, in_order}

-- ---- a unit as it is presented

pub units-presented : UnitsArePresented
unfolding presentation_of time_of time_of_unit unit_sent contents_of entry_of_mpu entry_of_unit
units-presented programme files ok u l =
    let cast : Cast = cast_of programme in
    let contents : Contents = contents_sent programme files in
    let x : PlacedUnit = unit_at programme u in
    let lu : u < length cast.units = omega (arith, l, length-units programme) in
    let known : mpu_of cast u < length cast.mpus = omega (arith, mpu-of programme u l, (placed-unit programme u l).0, length-mpus programme) in
    let at : unit_of (broadcast_of cast contents) u ≡ unit_places cast contents u = unit-at cast contents u lu in
    let entry : entry_of_unit cast contents u ≡ entry_of_mpu x.in_mpu = entry-of-unit programme files (message_bytes programme) u l in
    record {
      packet_id = ap (λ p. p.value.packet_id) at ∙ ap (λ (e : Entry). e.packet_id) entry;
      mpu = ap (λ p. p.value.mpu) at ∙ ap (λ (e : Entry). e.mpu) entry;
      key = ap (λ p. p.value.key) at;
      priority = ap (λ p. p.value.priority) at;
      dependency = ap (λ p. p.value.dependency) at;
      bytes = ap (λ p. p.value.bytes) at;
      time = ap (λ p. time_for 1 (entry_of (broadcast_of cast contents).cast p.mpu) p.value.key) at ∙ ap (λ (e : Entry). time_for 1 e x.value.key) (entry-at cast contents (mpu_of cast u) known ∙ entry);
    }

due-presented : (programme : Programme) (files : ℕ → List ℕ) → IsSendable programme (cast_of programme) files → (u : ℕ) → u < length (all_units programme)
    → due_of_unit (broadcast_of (cast_of programme) (contents_sent programme files)) u ≡ due_of_placed (unit_at programme u)
unfolding due_of_unit due_of_placed
due-presented programme files ok u l = ap due_of (units-presented programme files ok u l).time

-- ---- the least due tick of an MPU

least-in : (ns : List ℕ) (n : ℕ) → IsIn n ns → least ns ≤ n
unfolding least
least-in [] n i = absurd i
least-in (k ∷ []) n (inl same) = omega (arith, same)
least-in (k ∷ []) n (inr i) = absurd i
least-in (k ∷ j ∷ ns) n (inl same) = omega (arith, same)
least-in (k ∷ j ∷ ns) n (inr i) = omega (arith, least-in (j ∷ ns) n i)

in-mapped : {X Y : Type 0} (f : X → Y) (x : X) (xs : List X) → IsIn x xs → IsIn (f x) (map f xs)
in-mapped f x [] i = absurd i
in-mapped f x (y ∷ ys) (inl same) = inl (ap f same)
in-mapped f x (y ∷ ys) (inr i) = inr (in-mapped f x ys i)

in-filtered : {X : Type 0} (q : X → Bool) (x : X) (xs : List X) → IsIn x xs → q x ≡ true → IsIn x (filter q xs)
in-filtered q x [] i h = absurd i
in-filtered {X} q x (y ∷ ys) (inl same) h = let e : q y ≡ true = ap q same ∙ h in rw e (inl same)
in-filtered {X} q x (y ∷ ys) (inr i) h = go (q y) (in-filtered q x ys i h)
  where
    go : (b : Bool) → IsIn x (filter q ys) → IsIn x (cond b (y ∷ filter q ys) (filter q ys))
    go true later = inr later
    go false later = later

mpu-least : (programme : Programme) (u : ℕ) → u < length (all_units programme) → (sent_mpu (cast_of programme) (mpu_of (cast_of programme) u)).least.0 ≤ due_of_placed (unit_at programme u)
unfolding mpu_as_sent unit_at
mpu-least programme u l =
    let x : PlacedUnit = unit_at programme u in
    let m : ℕ = x.mpu_place in
    let is : sent_mpu (cast_of programme) m ≡ mpu_as_sent programme m (mpu_at programme m) = mpu-sent programme m (placed-unit programme u l).0 in
    let among : IsIn (due_of_placed x) (map due_of_placed (filter (λ (y : PlacedUnit). y.mpu_place == m) (all_units programme))) =
    in-mapped due_of_placed x (filter (λ (y : PlacedUnit). y.mpu_place == m) (all_units programme)) (in-filtered (λ (y : PlacedUnit). y.mpu_place == m) x (all_units programme) (in-at (all_units programme) u no_placed_unit l) (eq-eqb m m refl)) in
    subst (λ (k : ℕ). (sent_mpu (cast_of programme) k).least.0 ≤ due_of_placed x) (sym (mpu-of programme u l))
    (subst (λ (s : SentMpu). s.least.0 ≤ due_of_placed x) (sym is) (least-in (map due_of_placed (filter (λ (y : PlacedUnit). y.mpu_place == m) (all_units programme))) (due_of_placed x) among))

-- ---- a copy that counts

naming-of : (delay m least : ℕ) (o : Option LongTick) → fault_of_naming delay m least o ≡ None → (from : ℕ) × (tick_of o ≡ Some from) × (from + delay < least)
naming-of delay m least None e = absurd cc
naming-of delay m least (Some from) e = (from.0, refl, ltb-true (from.0 + delay) least (none-unless (nat_lt (from.0 + delay) least) 10 m (from.0 + delay) _ e))

mpu-named : (cast : Cast) (m : ℕ) → fault_of_mpu cast m ≡ None → (from : ℕ) × (tick_of (sent_mpu cast m).named_from ≡ Some from) × (from + cast.params.delay < (sent_mpu cast m).least.0)
unfolding fault_of_mpu
mpu-named cast m e = naming-of cast.params.delay m (sent_mpu cast m).least.0 (sent_mpu cast m).named_from e

any-at : {X Y : Type 0} (p : Y → Bool) (f : X → Y) (xs : List X) (i : ℕ) (d : X) → i < length xs → p (f (get_or xs i d)) ≡ true → list_any p (map f xs) ≡ true
any-at p f [] i d l h = absurd (omega (arith, l))
any-at p f (x ∷ xs) zero d l h = rw h refl
any-at p f (x ∷ xs) (suc i) d l h = or_right (p (f x)) (list_any p (map f xs)) (any-at p f xs i d (omega (arith, l)) h)

module _ (programme : Programme) (files : ℕ → List ℕ) (ok : IsSendable programme (cast_of programme) files) where
  abbrev c : Cast
  c = cast_of programme

  abbrev b : Broadcast
  b = broadcast_of (cast_of programme) (contents_sent programme files)

  right : IsCastOf c (contents_sent programme files) (names_in 1)
  right = casts-carry 1 programme (cast_of programme) files ok

  laid : IsWellFormed b (names_in 1)
  laid = formed c (contents_sent programme files) (names_in 1) right (apart b c.params (admitted c (contents_sent programme files) (names_in 1) ok.admitted right))

  good : IsFaultless c
  good = faultless c ok.admitted

  rise : Rise c.packets
  rise = rise-of c.packets good.gap

  copy-members : (i : ℕ) → i < length c.copies → (AllByRecursion (λ (n : ℕ). n < length c.packets) (places_of_copy c.packets (table_copy c i))) × (0 < length (places_of_copy c.packets (table_copy c i)))
  unfolding table_copy
  copy-members i l =
      let li : i < length b.cast.copies = omega (arith, l, copies-many c (contents_sent programme files)) in
      let is : get_or b.cast.copies i no_copy ≡ copy_places c.packets (get_or c.copies i no_table_copy) = get-map (copy_places c.packets) c.copies i no_table_copy no_copy l in (
        subst (λ (k : CopyPlaces). AllByRecursion (λ (n : ℕ). n < length c.packets) k.members) is (each-at (λ (k : CopyPlaces). AllByRecursion (λ (n : ℕ). n < length c.packets) k.members) b.cast.copies i no_copy laid.copy_of_cast li),
        subst (λ (k : CopyPlaces). 0 < length k.members) is (each-at (λ (k : CopyPlaces). 0 < length k.members) b.cast.copies i no_copy laid.copy_some li),
      )

  counts : (u : ℕ) → u < length (all_units programme)
      → list_any (λ (k : CopyPlaces). member (unit_of b u).mpu k.names && is_counted b.cast c.params.delay (down (length c.packets)) k.members (due_of_unit b u)) b.cast.copies ≡ true
  unfolding table_copy
  counts u l =
      let lu : u < length c.units = omega (arith, l, length-units programme) in
      let m : ℕ = mpu_of c u in
      let known : m < length c.mpus = (right.unit u lu).known in
      let from = mpu-named c m (good.mpu m known) in
      let named : IsNamedAt m from.0 c.copies = named-at m from.0 c.copies (sym (right.named_from m known) ∙ from.1) in
      let members = copy-members named.at named.there in
      let last = (right.copy named.at named.there).last in
      let due : due_of_unit b u ≡ due_of_placed (unit_at programme u) = due-presented programme files ok u l in
      let early : last_of_places c.packets (places_of_copy c.packets (table_copy c named.at)) < due_of_unit b u = omega (arith, last, named.ends, from.2, mpu-least programme u l, due) in
      let mpu : (unit_of b u).mpu ≡ m = ap (λ p. p.mpu) (unit-at c (contents_sent programme files) u lu) in
      any-at (λ (k : CopyPlaces). member (unit_of b u).mpu k.names && is_counted b.cast c.params.delay (down (length c.packets)) k.members (due_of_unit b u)) (copy_places c.packets) c.copies named.at no_table_copy named.there
      (and_from (member (unit_of b u).mpu (table_copy c named.at).names) (is_counted b.cast c.params.delay (down (length c.packets)) (places_of_copy c.packets (table_copy c named.at)) (due_of_unit b u))
      (ap (λ (k : ℕ). member k (table_copy c named.at).names) mpu ∙ named.names)
      (counted-down b.cast c.params.delay (due_of_unit b u) (places_of_copy c.packets (table_copy c named.at)) rise members.1 members.0 early))

  each-expected : (u : ℕ) → u < length (all_units programme) → is_expected b c.params.delay (down (length c.packets)) u ≡ true
  unfolding is_expected
  each-expected u l =
      let lu : u < length b.units = omega (arith, l, length-units programme, units-many c (contents_sent programme files)) in
      and_from (is_complete b.cast c.params.delay (down (length c.packets)) (unit_of b u).members)
      (list_any (λ (k : CopyPlaces). member (unit_of b u).mpu k.names && is_counted b.cast c.params.delay (down (length c.packets)) k.members (due_of_unit b u)) b.cast.copies)
      (complete-down b.cast c.params.delay rise (length c.packets) (omega arith) (unit_of b u).members (laid.unit_of_cast u lu))
      (counts u l)

  all-expected : expected b c.params.delay (down (length c.packets)) ≡ all_presented programme files
  unfolding expected all_presented
  all-expected =
      let many : length b.units ≡ length (all_units programme) = units-many c (contents_sent programme files) ∙ length-units programme in
      let n : ℕ = length (all_units programme) in
      ap (λ (k : ℕ). sort_by is_presented_before (map (presentation_of b) (filter (is_expected b c.params.delay (down (length c.packets))) (places k)))) many
      ∙ ap (λ (us : List ℕ). sort_by is_presented_before (map (presentation_of b) us))
      (filter-all (is_expected b c.params.delay (down (length c.packets))) (places n) (each-weaker-in n (places n) (places-below n)))
    where
      each-weaker-in : (n : ℕ) (us : List ℕ) → AllByRecursion (λ (u : ℕ). u < length (all_units programme)) us → AllByRecursion (λ (u : ℕ). is_expected b c.params.delay (down (length c.packets)) u ≡ true) us
      each-weaker-in n us h = each-weaker (λ (u : ℕ). u < length (all_units programme)) (λ (u : ℕ). is_expected b c.params.delay (down (length c.packets)) u ≡ true) us each-expected h

  is-whole : IsWhole programme files
  unfolding expected_in
  is-whole =
      let start = starts c.packets (start-of c ok.admitted) in
      let tuned : tuned_places c programme.full_every (in_order programme) ≡ in_order programme = tuned-in-order c programme.full_every (length c.packets) start.0 start.1 in
      record {
        of = numbers-of c.packets 0 (length c.packets) (omega arith);
        near = subst (λ (ds : List ℕ). NearDelivery c.packets ds) (sym tuned) (near-in-order c.packets rise (length c.packets) (omega arith));
        all = ap (λ (ds : List ℕ). expected b c.params.delay (newest_first ds)) tuned ∙ ap (expected b c.params.delay) (down-is (length c.packets)) ∙ all-expected;
      }

pub whole-casts : WholeCastsAreExpected
whole-casts = is-whole

-- ---- and `take` gives them back

pub gives-all : TakeGivesBack → WholeCastsAreExpected → TakeGivesAllBack
unfolding stream
gives-all law whole config programme files limit outcome old new unread reads reads' writes writes' ok r does =
    let w = whole programme files ok in
    let g = law config programme (cast_of programme) files (in_order programme) (record { sendable = ok; receives = r; of = w.of; near = w.near }) limit outcome old new unread reads reads' writes writes' does in
    (g.0, g.1, λ e. g.2.written e ∙ ap records w.all, subst (IsPrefix (bytes_written g.0)) (ap records w.all) g.2.writing, g.3)
