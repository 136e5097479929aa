-- A cast at other ticks goes with the contents with which it went.
use Rattle.std.proofs.Common.{◌≡◌, ℕ, ◌+◌, ◌<◌, true, List, [], length, map, get_or, arith, refl, ap, ap₂, sym, ◌∙◌, subst, Option, Some, None}
use Rattle.std.specs.List.{AllByRecursion}
use Rattle.mmt_base.specs.Ticks.{due_of}
use Rattle.mmt_cast.specs.Casting.{has_table, has_unit, long_tick}
use Rattle.mmt_model.specs.Carrying.{Contents, IsCastOf, IsInItsPlace, IsPacketAt, IsSentCopy, IsSentUnit, copy_place, entry_of_unit, first_of_places, has_part, has_table_part, last_of_places, named_from_of, numbers, place_of, places_of_copy, places_of_unit, sent_mpu, sent_unit, table_copy, tick_of}
use Rattle.mmt_model.specs.Entries.{Entry}
use Rattle.mmt_model.specs.Handing.{time_for}
use Rattle.mmt_model.specs.Survival.{no_packet}
use Rattle.mmt_model.specs.Units.{joined}
use Rattle.mmt_model.specs.declared.casts.Carries.{Carries}
use Rattle.mmt_model.specs.declared.casts.Carries.TheVariants as carries
use Rattle.mmt_model.specs.declared.casts.Cast.{Cast}
use Rattle.mmt_model.specs.declared.casts.Sent.{Sent}
use Rattle.mmt_model.specs.declared.casts.SentMpu.{SentMpu}
use Rattle.mmt_model.specs.declared.casts.SentUnit.{SentUnit}
use Rattle.mmt_model.specs.declared.casts.TableCopy.{TableCopy}
use Rattle.mmt_pace.proofs.Carried.{AreItsPackets, copy-packet, first-there, last-there, part-has, still-placed, table-part-has, unit-packet}
use Rattle.mmt_pace.proofs.Moved.{from-sorted, moved-to, sorted_at}
use Rattle.mmt_pace.proofs.Reading.{copies-many, copy-count, copy-is, copy-names, copy-number, copy-places, copy-signal, entry-is, mpu-is, mpu-of-is, mpus-many, packets-are, unit-count, unit-is, unit-number, units-many}
use Rattle.mmt_pace.specs.Laws.{AreTold, RecastsAreRight}
use Rattle.mmt_pace.specs.Recast.{copy_in_packets, mpu_named_by, recast, unit_in_packets}

-- a packet that carries something is found at its new tick, and still carries it
part-moved : (ticks : ℕ → ℕ) (xs : List Sent) (n i number : ℕ) (P : Carries → Type 0) → AreTold xs → IsPacketAt xs n i number → P (get_or xs n no_packet).carries
    → IsPacketAt (sorted_at ticks xs) (place_of (sorted_at ticks xs) i number) i number × P (get_or (sorted_at ticks xs) (place_of (sorted_at ticks xs) i number) no_packet).carries
part-moved ticks xs n i number P told p h =
    let m = moved-to ticks xs n i number told p in (
      record { of = m.of; has_id = ap (λ (q : Sent). q.packet_id) m.at ∙ p.has_id; has_number = ap (λ (q : Sent). q.number) m.at ∙ p.has_number },
      subst (λ (q : Sent). P q.carries) (sym m.at) h,
    )

packets-placed : (ticks : ℕ → ℕ) (cast : Cast) (contents : Contents) → ((n : ℕ) → n < length cast.packets → IsInItsPlace cast contents (get_or cast.packets n no_packet).packet_id (get_or cast.packets n no_packet).number (get_or cast.packets n no_packet).carries)
    → (n : ℕ) → n < length (sorted_at ticks cast.packets)
    → (let p = get_or (sorted_at ticks cast.packets) n no_packet in IsInItsPlace (recast ticks cast) contents p.packet_id p.number p.carries)
packets-placed ticks cast contents placed n l =
    let m = from-sorted ticks cast.packets n l in
    subst (λ (p : Sent). IsInItsPlace (recast ticks cast) contents p.packet_id p.number p.carries) (sym m.2)
    (still-placed ticks cast contents (get_or cast.packets m.0 no_packet).packet_id (get_or cast.packets m.0 no_packet).number (get_or cast.packets m.0 no_packet).carries (placed m.0 m.1))

module _ (ticks : ℕ → ℕ) (cast : Cast) (contents : Contents) (names_in : List ℕ → List Entry) (told : AreTold cast.packets) (right : IsCastOf cast contents names_in) where
  -- ---- units

  unit-packets : (u : ℕ) → u < length cast.units → AreItsPackets (has_unit u) cast.packets (entry_of_unit cast contents u).packet_id (sent_unit cast u).first_number (sent_unit cast u).count
  unit-packets u l = record {
    all = λ n ln h. unit-packet cast contents u (get_or cast.packets n no_packet).packet_id (get_or cast.packets n no_packet).number (get_or cast.packets n no_packet).carries (right.packet n ln) h;
    each = λ k below. (let e = (right.unit u l).each k below in (place_of cast.packets (entry_of_unit cast contents u).packet_id ((sent_unit cast u).first_number + k), e.0, part-has u k _ e.1));
  }

  unit-part : (u : ℕ) → u < length cast.units → (k : ℕ) → k < (sent_unit cast u).count
      → (let ys = sorted_at ticks cast.packets in let i = (entry_of_unit cast contents u).packet_id in let m = (sent_unit cast u).first_number + k in
      IsPacketAt ys (place_of ys i m) i m × (has_part u k (get_or ys (place_of ys i m) no_packet).carries ≡ true))
  unit-part u l k below =
      let e = (right.unit u l).each k below in
      part-moved ticks cast.packets _ (entry_of_unit cast contents u).packet_id ((sent_unit cast u).first_number + k) (λ x. has_part u k x ≡ true) told e.0 e.1

  unit-places : (u : ℕ) → u < length cast.units → places_of_unit (recast ticks cast) contents u ≡ map (place_of (sorted_at ticks cast.packets) (entry_of_unit cast contents u).packet_id) (numbers (sent_unit cast u).first_number (sent_unit cast u).count)
  unfolding places_of_unit recast
  unit-places u l =
      ap (λ i. map (place_of (sorted_at ticks cast.packets) i) (numbers (sent_unit (recast ticks cast) u).first_number (sent_unit (recast ticks cast) u).count)) (ap (λ (e : Entry). e.packet_id) (entry-is ticks cast contents u l))
      ∙ ap₂ (λ f c. map (place_of (sorted_at ticks cast.packets) (entry_of_unit cast contents u).packet_id) (numbers f c)) (unit-number ticks cast u l) (unit-count ticks cast u l)

  unit-still : (u : ℕ) → u < length cast.units → IsSentUnit (recast ticks cast) contents u
  unfolding unit_in_packets
  unit-still u l =
      let new : Cast = recast ticks cast in
      let ys : List Sent = sorted_at ticks cast.packets in
      let old : IsSentUnit cast contents u = right.unit u l in
      let is = unit-is ticks cast u l in
      let id : (entry_of_unit new contents u).packet_id ≡ (entry_of_unit cast contents u).packet_id = ap (λ (e : Entry). e.packet_id) (entry-is ticks cast contents u l) in
      let number = unit-number ticks cast u l in
      let count = unit-count ticks cast u l in
      let its = unit-packets u l in
      record {
        known = omega (arith, old.known, mpu-of-is ticks cast u l, mpus-many ticks cast);
        some = omega (arith, old.some, count);
        low = omega (arith, old.low, count, number);
        each = λ k below.
            subst (λ (ps : List Sent). IsPacketAt ps (place_of ps (entry_of_unit new contents u).packet_id ((sent_unit new u).first_number + k)) (entry_of_unit new contents u).packet_id ((sent_unit new u).first_number + k) × (has_part u k (get_or ps (place_of ps (entry_of_unit new contents u).packet_id ((sent_unit new u).first_number + k)) no_packet).carries ≡ true)) (sym (packets-are ticks cast))
            (subst (λ i. IsPacketAt ys (place_of ys i ((sent_unit new u).first_number + k)) i ((sent_unit new u).first_number + k) × (has_part u k (get_or ys (place_of ys i ((sent_unit new u).first_number + k)) no_packet).carries ≡ true)) (sym id)
            (subst (λ f. IsPacketAt ys (place_of ys (entry_of_unit cast contents u).packet_id (f + k)) (entry_of_unit cast contents u).packet_id (f + k) × (has_part u k (get_or ys (place_of ys (entry_of_unit cast contents u).packet_id (f + k)) no_packet).carries ≡ true)) (sym number)
            (unit-part u l k (omega (arith, below, count)))));
        whole = ap (λ m. joined (map (contents.part u) (numbers 0 m))) count ∙ old.whole;
        key = old.key ∙ sym (ap (λ (s : SentUnit). s.key) is);
        time = ap (λ (s : SentUnit). s.time.0) is ∙ (old.time ∙ ap₂ (λ (e : Entry) k. time_for 1 e k) (sym (entry-is ticks cast contents u l)) (sym (ap (λ (s : SentUnit). s.key) is)));
        due = ap (λ (s : SentUnit). s.due.0) is ∙ (old.due ∙ ap due_of (sym (ap (λ (s : SentUnit). s.time.0) is)));
        first = ap (λ (s : SentUnit). s.first.0) is ∙ (first-there ticks (has_unit u) cast.packets (entry_of_unit cast contents u).packet_id (sent_unit cast u).first_number (sent_unit cast u).count told its ∙ ap₂ first_of_places (sym (packets-are ticks cast)) (sym (unit-places u l)));
        last = ap (λ (s : SentUnit). s.last.0) is ∙ (last-there ticks (has_unit u) cast.packets (entry_of_unit cast contents u).packet_id (sent_unit cast u).first_number (sent_unit cast u).count told its ∙ ap₂ last_of_places (sym (packets-are ticks cast)) (sym (unit-places u l)));
      }

  -- ---- table copies

  copy-packets : (c : ℕ) → c < length cast.copies → AreItsPackets (has_table (table_copy cast c).signal) cast.packets 0 (table_copy cast c).first_number (table_copy cast c).count
  copy-packets c l = record {
    all = λ n ln h. copy-packet cast contents c (get_or cast.packets n no_packet).packet_id (get_or cast.packets n no_packet).number (get_or cast.packets n no_packet).carries (right.packet n ln) h (right.copy c l).own;
    each = λ k below. (let e = (right.copy c l).each k below in (place_of cast.packets 0 ((table_copy cast c).first_number + k), e.0, table-part-has (table_copy cast c).signal k _ e.1));
  }

  copy-part : (c : ℕ) → c < length cast.copies → (k : ℕ) → k < (table_copy cast c).count
      → (let ys = sorted_at ticks cast.packets in let m = (table_copy cast c).first_number + k in
      IsPacketAt ys (place_of ys 0 m) 0 m × (has_table_part (table_copy cast c).signal k (get_or ys (place_of ys 0 m) no_packet).carries ≡ true))
  copy-part c l k below =
      let e = (right.copy c l).each k below in
      part-moved ticks cast.packets _ 0 ((table_copy cast c).first_number + k) (λ x. has_table_part (table_copy cast c).signal k x ≡ true) told e.0 e.1

  copy-places-are : (c : ℕ) → c < length cast.copies → places_of_copy (recast ticks cast).packets (table_copy (recast ticks cast) c) ≡ map (place_of (sorted_at ticks cast.packets) 0) (numbers (table_copy cast c).first_number (table_copy cast c).count)
  unfolding places_of_copy
  copy-places-are c l =
      ap (λ ps. map (place_of ps 0) (numbers (table_copy (recast ticks cast) c).first_number (table_copy (recast ticks cast) c).count)) (packets-are ticks cast)
      ∙ ap₂ (λ f n. map (place_of (sorted_at ticks cast.packets) 0) (numbers f n)) (copy-number ticks cast c l) (copy-count ticks cast c l)

  copy-still : (c : ℕ) → c < length cast.copies → IsSentCopy (recast ticks cast) contents names_in c
  unfolding copy_in_packets
  copy-still c l =
      let new : Cast = recast ticks cast in
      let ys : List Sent = sorted_at ticks cast.packets in
      let old : IsSentCopy cast contents names_in c = right.copy c l in
      let is = copy-is ticks cast c l in
      let number = copy-number ticks cast c l in
      let count = copy-count ticks cast c l in
      let signal = copy-signal ticks cast c l in
      let its = copy-packets c l in
      let message : joined (map (contents.message_part (table_copy new c).signal) (numbers 0 (table_copy new c).count)) ≡ joined (map (contents.message_part (table_copy cast c).signal) (numbers 0 (table_copy cast c).count)) =
      ap₂ (λ s n. joined (map (contents.message_part s) (numbers 0 n))) signal count in
      record {
        own = copy-places ticks cast (table_copy new c).signal ∙ (ap (copy_place cast.copies) signal ∙ old.own);
        some = omega (arith, old.some, count);
        low = omega (arith, old.low, count, number);
        each = λ k below.
            subst (λ (ps : List Sent). IsPacketAt ps (place_of ps 0 ((table_copy new c).first_number + k)) 0 ((table_copy new c).first_number + k) × (has_table_part (table_copy new c).signal k (get_or ps (place_of ps 0 ((table_copy new c).first_number + k)) no_packet).carries ≡ true)) (sym (packets-are ticks cast))
            (subst (λ s. IsPacketAt ys (place_of ys 0 ((table_copy new c).first_number + k)) 0 ((table_copy new c).first_number + k) × (has_table_part s k (get_or ys (place_of ys 0 ((table_copy new c).first_number + k)) no_packet).carries ≡ true)) (sym signal)
            (subst (λ f. IsPacketAt ys (place_of ys 0 (f + k)) 0 (f + k) × (has_table_part (table_copy cast c).signal k (get_or ys (place_of ys 0 (f + k)) no_packet).carries ≡ true)) (sym number)
            (copy-part c l k (omega (arith, below, count)))));
        short = omega (arith, old.short, ap (λ (bs : List ℕ). length bs) message);
        names = ap (map contents.entry) (copy-names ticks cast c l) ∙ (old.names ∙ ap names_in (sym message));
        known = subst (AllByRecursion (λ m. m < length new.mpus)) (sym (copy-names ticks cast c l)) (subst (λ n. AllByRecursion (λ m. m < n) (table_copy cast c).names) (sym (mpus-many ticks cast)) old.known);
        first = ap (λ (s : TableCopy). s.first.0) is ∙ (first-there ticks (has_table (table_copy cast c).signal) cast.packets 0 (table_copy cast c).first_number (table_copy cast c).count told its ∙ ap₂ first_of_places (sym (packets-are ticks cast)) (sym (copy-places-are c l)));
        last = ap (λ (s : TableCopy). s.last.0) is ∙ (last-there ticks (has_table (table_copy cast c).signal) cast.packets 0 (table_copy cast c).first_number (table_copy cast c).count told its ∙ ap₂ last_of_places (sym (packets-are ticks cast)) (sym (copy-places-are c l)));
      }

  -- ---- the whole cast

  packets-still : (n : ℕ) → n < length (recast ticks cast).packets
      → IsInItsPlace (recast ticks cast) contents (get_or (recast ticks cast).packets n no_packet).packet_id (get_or (recast ticks cast).packets n no_packet).number (get_or (recast ticks cast).packets n no_packet).carries
  packets-still =
      subst (λ (ps : List Sent). (n : ℕ) → n < length ps → IsInItsPlace (recast ticks cast) contents (get_or ps n no_packet).packet_id (get_or ps n no_packet).number (get_or ps n no_packet).carries) (sym (packets-are ticks cast))
      (packets-placed ticks cast contents right.packet)

  parameters-still : (n s : ℕ) → n < length (recast ticks cast).packets → (get_or (recast ticks cast).packets n no_packet).carries ≡ carries.Parameters s → names_in (contents.message_part s 0) ≡ []
  parameters-still =
      subst (λ (ps : List Sent). (n s : ℕ) → n < length ps → (get_or ps n no_packet).carries ≡ carries.Parameters s → names_in (contents.message_part s 0) ≡ []) (sym (packets-are ticks cast))
      (λ n s l e. (let m = from-sorted ticks cast.packets n l in right.parameters m.0 s m.1 (sym (ap (λ (q : Sent). q.carries) m.2) ∙ e)))

  tick-long : (o : Option ℕ) → tick_of (long_tick o) ≡ o
  tick-long None = refl
  tick-long (Some t) = refl

  mpu-last : (m : ℕ) → m < length cast.mpus → (sent_mpu (recast ticks cast) m).last.0 ≡ (sent_mpu cast m).last.0
  unfolding mpu_named_by
  mpu-last m l = ap (λ (x : SentMpu). x.last.0) (mpu-is ticks cast m l)

  mpu-named : (m : ℕ) → m < length cast.mpus → tick_of (sent_mpu (recast ticks cast) m).named_from ≡ named_from_of m (recast ticks cast).copies
  unfolding mpu_named_by
  mpu-named m l = ap (λ (x : SentMpu). tick_of x.named_from) (mpu-is ticks cast m l) ∙ tick-long (named_from_of m (recast ticks cast).copies)

  still-right : IsCastOf (recast ticks cast) contents names_in
  still-right =
      let mpus = mpus-many ticks cast in
      let units = units-many ticks cast in
      record {
        packet = packets-still;
        unit = λ u l. unit-still u (omega (arith, l, units));
        copy = λ c l. copy-still c (omega (arith, l, copies-many ticks cast));
        parameters = parameters-still;
        mpus_differ = λ m j lm lj ids numbers. right.mpus_differ m j (omega (arith, lm, mpus)) (omega (arith, lj, mpus)) ids numbers;
        side_by_side = λ u w v a b l e.
            (let lv : v < length cast.units = omega (arith, l, units) in
            let lw : w < length cast.units = omega (arith, lv, b) in
            let lu : u < length cast.units = omega (arith, lw, a) in
            mpu-of-is ticks cast w lw ∙ (right.side_by_side u w v a b lv (sym (mpu-of-is ticks cast u lu) ∙ (e ∙ mpu-of-is ticks cast v lv)) ∙ sym (mpu-of-is ticks cast u lu)));
        mpu_last = λ m l. mpu-last m (omega (arith, l, mpus)) ∙ right.mpu_last m (omega (arith, l, mpus));
        named_from = λ m l. mpu-named m (omega (arith, l, mpus));
      }

pub recasts-are-right : RecastsAreRight
recasts-are-right ticks cast contents names_in told right = still-right ticks cast contents names_in told right
