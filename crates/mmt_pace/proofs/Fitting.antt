-- Admission may be asked about a paced cast, and the cast of a programme begins no later than at 2^48.
use Rattle.std.proofs.Common.{ℕ, ◌<◌, ◌^◌, Bool, true, false, cond, All, List, [], ◌∷◌, map, length, arith, ap, sym, ◌∙◌, subst, Option, Some, None}
use Rattle.std.specs.List.{AllByRecursion}
use Rattle.std.proofs.Math.Nat.{mul-le-mul_right}
use Rattle.std.proofs.lemmas.List.{get_or_default}
use Rattle.mmt_admit.specs.Faults.{CopyFits, IsReadable, MpuFits, TickFits, UnitFits}
use Rattle.mmt_cast.proofs.Listing.{IsIn}
use Rattle.mmt_cast.specs.Casting.{greatest, has_table, has_unit, least, long_tick}
use Rattle.mmt_model.specs.Carrying.{least_with, named_from_of, sent_mpu, sent_unit, table_copy}
use Rattle.mmt_model.specs.Counts.{member}
use Rattle.mmt_model.specs.Survival.{no_packet}
use Rattle.mmt_model.specs.declared.casts.Carries.{Carries}
use Rattle.mmt_model.specs.declared.casts.Cast.{Cast}
use Rattle.mmt_model.specs.declared.casts.Sent.{Sent}
use Rattle.mmt_model.specs.declared.casts.TableCopy.{TableCopy}
use Rattle.mmt_pace.proofs.Minima.{greatest-in, least-in}
use Rattle.mmt_pace.proofs.Moved.{from-retimed, from-sorted, from-ticks, length-sorted, sorted_at}
use Rattle.mmt_pace.proofs.Reading.{copies-many, copy-is, mpu-is, mpus-many, packets-are, unit-is, units-many}
use Rattle.mmt_pace.specs.Asked.{CanBePaced, IsRow}
use Rattle.mmt_pace.specs.Laws.{PacedCastsAreReadable}
use Rattle.mmt_pace.specs.Recast.{copy_in_packets, mpu_named_by, paced_by, recast, retimed, ticks_of, ticks_with, unit_in_packets}
use Rattle.mmt_slots.specs.Schedule.{slot_of, tick_of}
use Rattle.mmt_slots.specs.declared.row.Slots.{Slots}

least-below : (b : ℕ) (ns : List ℕ) → 0 < b → ((z : ℕ) → IsIn z ns → z < b) → least ns < b
unfolding least
least-below b [] p h = p
least-below b (n ∷ ns) p h = h (least (n ∷ ns)) (least-in n ns)

greatest-below : (b : ℕ) (ns : List ℕ) → 0 < b → ((z : ℕ) → IsIn z ns → z < b) → greatest ns < b
unfolding greatest
greatest-below b [] p h = p
greatest-below b (n ∷ ns) p h = h (greatest (n ∷ ns)) (greatest-in n ns)

lesser-below : (b last : ℕ) (o : Option ℕ) → last < b → least_with last o < b
lesser-below b last None l = l
lesser-below b last (Some other) l = omega (arith, l)

named-fits : (m : ℕ) (cs : List TableCopy) → AllByRecursion (λ (c : TableCopy). c.last.0 < 2 ^ 60) cs → TickFits (long_tick (named_from_of m cs))
unfolding named_from_of
named-fits m [] all = tt
named-fits m (c ∷ cs) all = go (member m c.names) (named-fits m cs all.1)
  where
    go : (t : Bool) → TickFits (long_tick (named_from_of m cs)) → TickFits (long_tick (cond t (Some (least_with c.last.0 (named_from_of m cs))) (named_from_of m cs)))
    go true ih = lesser-below (2 ^ 60) c.last.0 (named_from_of m cs) all.0
    go false ih = ih

module _ (ticks : ℕ → ℕ) (cast : Cast) (can : CanBePaced cast) (low : (n : ℕ) → n < length cast.packets → ticks n < 2 ^ 60) where
  below : (has : Carries → Bool) (z : ℕ) → IsIn z (ticks_with has (retimed ticks cast.packets)) → z < 2 ^ 60
  below has z i =
      let t = from-ticks has (retimed ticks cast.packets) z i in
      let r = from-retimed ticks cast.packets t.0 t.1 in
      let e = ap (λ (q : Sent). q.at.0) r.2 in
      omega (arith, e, t.3, low r.0 r.1)

  first-fits : (has : Carries → Bool) → least (ticks_with has (retimed ticks cast.packets)) < 2 ^ 60
  first-fits has = least-below (2 ^ 60) (ticks_with has (retimed ticks cast.packets)) (omega arith) (below has)

  last-fits : (has : Carries → Bool) → greatest (ticks_with has (retimed ticks cast.packets)) < 2 ^ 60
  last-fits has = greatest-below (2 ^ 60) (ticks_with has (retimed ticks cast.packets)) (omega arith) (below has)

  unit-fits : (u : ℕ) → u < length cast.units → UnitFits (sent_unit (recast ticks cast) u)
  unfolding unit_in_packets
  unit-fits u l = subst UnitFits (sym (unit-is ticks cast u l)) (first-fits (has_unit u), last-fits (has_unit u), (can.readable.units u l).2)

  copies-fit : (cs : List TableCopy) → AllByRecursion (λ (c : TableCopy). c.last.0 < 2 ^ 60) (map (copy_in_packets (retimed ticks cast.packets)) cs)
  unfolding copy_in_packets
  copies-fit [] = tt
  copies-fit (c ∷ cs) = (last-fits (has_table c.signal), copies-fit cs)

  mpu-fits : (m : ℕ) → m < length cast.mpus → MpuFits (sent_mpu (recast ticks cast) m)
  unfolding mpu_named_by recast
  mpu-fits m l = let old = can.readable.mpus m l in subst MpuFits (sym (mpu-is ticks cast m l)) (old.0, old.1, named-fits m (map (copy_in_packets (retimed ticks cast.packets)) cast.copies) (copies-fit cast.copies))

  copy-fits : (c : ℕ) → c < length cast.copies → CopyFits (length (recast ticks cast).mpus) (table_copy (recast ticks cast) c)
  unfolding copy_in_packets
  copy-fits c l =
      subst (λ n. CopyFits n (table_copy (recast ticks cast) c)) (sym (mpus-many ticks cast))
      (subst (CopyFits (length cast.mpus)) (sym (copy-is ticks cast c l)) (first-fits (has_table (table_copy cast c).signal), last-fits (has_table (table_copy cast c).signal), (can.readable.copies c l).2))

  ticks-fit : All (λ (p : Sent). p.at.0 < 2 ^ 60) (sorted_at ticks cast.packets)
  ticks-fit k d l =
      let m = from-sorted ticks cast.packets k l in
      let e = ap (λ (q : Sent). q.at.0) (get_or_default (sorted_at ticks cast.packets) k d no_packet l ∙ m.2) in
      omega (arith, e, low m.0 m.1)

  still-readable : IsReadable (recast ticks cast)
  still-readable =
      let units = units-many ticks cast in
      let mpus = mpus-many ticks cast in
      let copies = copies-many ticks cast in
      record {
        packets = record {
          few = omega (arith, can.readable.packets.few, length-sorted ticks cast.packets, ap (λ (ps : List Sent). length ps) (packets-are ticks cast));
          ticks = subst (λ (ps : List Sent). All (λ (p : Sent). p.at.0 < 2 ^ 60) ps) (sym (packets-are ticks cast)) ticks-fit;
        };
        few_units = omega (arith, can.readable.few_units, units);
        few_mpus = omega (arith, can.readable.few_mpus, mpus);
        few_copies = omega (arith, can.readable.few_copies, copies);
        units = λ u l. unit-fits u (omega (arith, l, units));
        mpus = λ m l. mpu-fits m (omega (arith, l, mpus));
        copies = λ c l. copy-fits c (omega (arith, l, copies));
      }

slot-low : (slots : Slots) (k step : ℕ) → IsRow slots → slots.step < 2 ^ 32 → k < slots.count → tick_of slots k < 2 ^ 60
slot-low slots k step row short l =
    let m = mul-le-mul_right {m = k} {n = 2 ^ 24} slots.step (omega (arith, l, row.count)) in
    omega (arith, m, row.start, short)

pub paced-readable : PacedCastsAreReadable
unfolding paced_by
paced-readable slots given cast can row short are = still-readable (ticks_of slots given) cast can (λ n l. slot-low slots (slot_of given n) slots.step row short (are.in_row n l))
