-- The cast of a right programme may be asked about.
use Rattle.std.proofs.Common.{◌≡◌, ℕ, ◌+◌, ◌-◌, ◌*◌, ◌/◌, ◌^◌, ◌<◌, ◌≤◌, zero, suc, Bool, true, false, ◌==◌, ◌&&◌, nat_lt, nat_le, cond, List, [], ◌∷◌, map, length, get_or, max, arith, refl, ap, sym, subst, Option, Some, None, fold}
use Rattle.std.specs.Int.{div_ceil}
use Rattle.std.specs.List.{AllByRecursion}
use Rattle.std.proofs.Math.Nat.{mul-le-mul}
use Rattle.std.proofs.lemmas.Bool.{ltb-true}
use Rattle.std.proofs.lemmas.List.Elements.{All-from_recursion}
use Rattle.mmt_admit.specs.Faults.{TickFits}
use Rattle.mmt_base.specs.Ticks.{due_of}
use Rattle.mmt_cast.proofs.Copies.{IsCopy, are-copies}
use Rattle.mmt_cast.proofs.Found.{each-sent, numbers-fit}
use Rattle.mmt_cast.proofs.Listing.{each-at, each-weaker, length-sort}
use Rattle.mmt_cast.proofs.Numbering.{before, each-planned}
use Rattle.mmt_cast.proofs.Placed.{IsPlacedUnit}
use Rattle.mmt_cast.proofs.Reading.{length-mpus, length-units, mpu-sent, placed-unit, unit-sent}
use Rattle.mmt_cast.proofs.Refusals.{few-packets}
use Rattle.mmt_cast.proofs.Rightness.{IsRightSending}
use Rattle.mmt_cast.proofs.SentIn.{right-sending}
use Rattle.mmt_cast.proofs.Tables.{each-filter, index-each}
use Rattle.mmt_cast.proofs.Tabling.{known-names}
use Rattle.mmt_cast.specs.Casting.{cast_of, copies_as_sent, copy_as_sent, due_of_placed, greatest, is_sent_before, least, long_tick, mpu_as_sent, planned, span_of, span_of_table, span_of_unit, tick_of_sent, time_of_unit, unit_as_sent, with_number}
use Rattle.mmt_cast.specs.Placing.{PlacedMpu, PlacedUnit, all_mpus, all_units, entry_of_mpu, flat_map_from}
use Rattle.mmt_cast.specs.Refusing.{refusal}
use Rattle.mmt_cast.specs.Right.{IsRight, NamesKnown, mpu_at, no_placed_unit, unit_at}
use Rattle.mmt_cast.specs.Sending.{Sending, packet_of, tick_of_packet}
use Rattle.mmt_model.specs.Carrying.{least_with, named_from_of, no_table_copy, sent_mpu, sent_unit, table_copy}
use Rattle.mmt_model.specs.Counts.{member}
use Rattle.mmt_model.specs.Entries.{last_due}
use Rattle.mmt_model.specs.Handing.{time_for}
use Rattle.mmt_model.specs.declared.casts.Sent.{Sent}
use Rattle.mmt_model.specs.declared.casts.SentMpu.{SentMpu}
use Rattle.mmt_model.specs.declared.casts.SentUnit.{SentUnit}
use Rattle.mmt_model.specs.declared.casts.TableCopy.{TableCopy}
use Rattle.mmt_model.specs.declared.keys.UnitKey.{UnitKey}
use Rattle.mmt_model.specs.declared.keys.UnitKey.TheVariants as keys
use Rattle.mmt_model.specs.declared.programmes.Programme.{Programme}
use Rattle.mmt_model.specs.declared.programmes.Signal.{Signal}
use Rattle.mmt_model.specs.declared.programmes.Signal.TheVariants as signals
use Rattle.mmt_cast.specs.Readable.{CastsAreReadable, FitsTicks, tick_of_signal}
use Rattle.mmt_times.specs.Times.{AuValue, below_the_end, earlier, in_range, pts_or, time_at, unit_times}
use Rattle.mmt_times.specs.Writing.{au_value}

-- ---- the ticks of packets

abbrev IsSoon : Sent → Type 0
IsSoon p = p.at.0 < 2 ^ 60

spaced : (at k spacing : ℕ) → at ≤ 2 ^ 48 → k ≤ 16777216 → spacing < 2 ^ 16 → at + k * spacing < 2 ^ 60
spaced at k spacing a l s =
    let s' : spacing ≤ 65535 = omega arith in
    let m = mul-le-mul l s' in
    omega (arith, a, m)

soon-sending : (programme : Programme) → FitsTicks programme → (x : Sending) → IsRightSending programme x → (k : ℕ) → k ≤ 16777216 → tick_of_packet programme x k < 2 ^ 60
unfolding tick_of_packet
soon-sending programme fits (Sending.Parameters s at) is k l = omega (arith, ap tick_of_signal is.1, fits.signals s is.0)
soon-sending programme fits (Sending.Table s at bytes) is k l = spaced at k programme.spacing (omega (arith, ap tick_of_signal is.2, fits.signals s is.0)) l fits.spacing
soon-sending programme fits (Sending.Alone u x) is k l = spaced x.value.at.0 k programme.spacing (omega (arith, ap (λ (z : PlacedUnit). z.value.at.0) is.1, fits.units u is.0)) l fits.spacing
soon-sending programme fits (Sending.Group f c x bytes) is k l = omega (arith, ap (λ (z : PlacedUnit). z.value.at.0) is.2, fits.units f (omega (arith, is.0, is.1)))

soon-planned : (programme : Programme) → FitsTicks programme → refusal programme ≡ None → AllByRecursion IsSoon (planned programme)
unfolding with_number packet_of
soon-planned programme fits none =
    each-planned programme IsSoon (λ a b x k e l. soon-sending programme fits x (right-sending programme a b x e) k (omega (arith, l, numbers-fit programme a b x e, few-packets programme none)))

soon-sent : (programme : Programme) → FitsTicks programme → refusal programme ≡ None → AllByRecursion IsSoon (cast_of programme).packets
unfolding with_number packet_of
soon-sent programme fits none =
    each-sent programme IsSoon (λ a b x k e l. soon-sending programme fits x (right-sending programme a b x e) k (omega (arith, l, numbers-fit programme a b x e, few-packets programme none)))

-- ---- spans

least-below : (b : ℕ) (ns : List ℕ) → 0 < b → AllByRecursion (λ n. n < b) ns → least ns < b
unfolding least
least-below b [] some e = some
least-below b (n ∷ []) some e = e.0
least-below b (n ∷ m ∷ ns) some e = omega (arith, e.0)

greatest-below : (b : ℕ) (ns : List ℕ) → 0 < b → AllByRecursion (λ n. n < b) ns → greatest ns < b
unfolding greatest
greatest-below b [] some e = some
greatest-below b (n ∷ ns) some e = omega (arith, e.0, greatest-below b ns some e.1)

ticks-below : (ps : List Sent) → AllByRecursion IsSoon ps → AllByRecursion (λ n. n < 2 ^ 60) (map tick_of_sent ps)
ticks-below [] e = tt
ticks-below (p ∷ ps) e = (e.0, ticks-below ps e.1)

span-below : (ps : List Sent) → AllByRecursion IsSoon ps → ((span_of ps).first.0 < 2 ^ 60) × ((span_of ps).last.0 < 2 ^ 60)
unfolding span_of
span-below ps e = (least-below (2 ^ 60) (map tick_of_sent ps) (omega arith) (ticks-below ps e), greatest-below (2 ^ 60) (map tick_of_sent ps) (omega arith) (ticks-below ps e))

unit-below : (programme : Programme) (u : ℕ) → AllByRecursion IsSoon (planned programme) → ((span_of_unit programme u).first.0 < 2 ^ 60) × ((span_of_unit programme u).last.0 < 2 ^ 60)
unfolding span_of_unit
unit-below programme u e = span-below _ (each-filter IsSoon _ (planned programme) e)

table-below : (programme : Programme) (s : ℕ) → AllByRecursion IsSoon (planned programme) → ((span_of_table programme s).first.0 < 2 ^ 60) × ((span_of_table programme s).last.0 < 2 ^ 60)
unfolding span_of_table
table-below programme s e = span-below _ (each-filter IsSoon _ (planned programme) e)

-- ---- times

in-bounds : (ts : List (Option ℕ)) → AllByRecursion (λ (o : Option ℕ). (t : ℕ) → o ≡ Some t → t < 2 ^ 64) ts → AllByRecursion (λ t. t < 2 ^ 64) (in_range ts)
unfolding in_range
in-bounds [] e = tt
in-bounds (None ∷ ts) e = tt
in-bounds (Some t ∷ ts) e = (e.0 t refl, in-bounds ts e.1)

time-below : (time offset before dts_pts timescale t : ℕ) → time < 2 ^ 64 → time_at time offset before dts_pts timescale ≡ Some t → t < 2 ^ 64
unfolding time_at
time-below time offset before dts_pts timescale t l e = go (nat_le offset (before + dts_pts)) e
  where
    below : (x : ℕ) (b : Bool) → nat_lt x (2 ^ 64) ≡ b → cond b (Some x) None ≡ Some t → t < 2 ^ 64
    below x true i e = let s : x ≡ t = cc in omega (arith, s, ltb-true x (2 ^ 64) i)
    below x false i e = absurd cc

    sooner : (by : ℕ) (b : Bool) → cond b (Some (time - by)) None ≡ Some t → t < 2 ^ 64
    sooner by true e = let s : time - by ≡ t = cc in omega (arith, s, l)
    sooner by false e = absurd cc

    go : (b : Bool) → cond b (below_the_end (time + (before + dts_pts - offset) * 2 ^ 32 / timescale)) (earlier time (div_ceil ((offset - (before + dts_pts)) * 2 ^ 32) timescale)) ≡ Some t → t < 2 ^ 64
    go true e = below (time + (before + dts_pts - offset) * 2 ^ 32 / timescale) (nat_lt (time + (before + dts_pts - offset) * 2 ^ 32 / timescale) (2 ^ 64)) refl e
    go false e = sooner (div_ceil ((offset - (before + dts_pts)) * 2 ^ 32) timescale) (nat_le (div_ceil ((offset - (before + dts_pts)) * 2 ^ 32) timescale) time) e

times-below : (time offset timescale : ℕ) (aus : List AuValue) (sum : ℕ) → time < 2 ^ 64 → AllByRecursion (λ (o : Option ℕ). (t : ℕ) → o ≡ Some t → t < 2 ^ 64) (unit_times time offset timescale 0 sum aus)
unfolding unit_times
times-below time offset timescale [] sum l = tt
times-below time offset timescale (a ∷ as') sum l = ((λ t e. time-below time offset sum a.dts_pts timescale t l e), times-below time offset timescale as' (sum + pts_or 0 a.pts) l)

aus-below : (m : PlacedMpu) → m.value.time.0 < 2 ^ 64 → AllByRecursion (λ t. t < 2 ^ 64) (entry_of_mpu m).aus
unfolding entry_of_mpu
aus-below m l = in-bounds _ (times-below m.value.time.0 m.value.decoding_offset m.in_asset.timescale (map au_value m.value.aus) 0 l)

due-below : (time : ℕ) → time < 2 ^ 64 → due_of time < 2 ^ 60
unfolding due_of
due-below time l = omega arith

get-below : (b d : ℕ) (xs : List ℕ) (k : ℕ) → d < b → AllByRecursion (λ n. n < b) xs → get_or xs k d < b
get-below b d [] k l e = l
get-below b d (x ∷ xs) zero l e = e.0
get-below b d (x ∷ xs) (suc k) l e = get-below b d xs k l e.1

max-below : (b d : ℕ) (xs : List ℕ) → d < b → AllByRecursion (λ n. n < b) xs → fold max d xs < b
max-below b d [] l e = l
max-below b d (x ∷ xs) l e = max-below b (max d x) xs (omega (arith, e.0, l)) e.1

time-of-key : (m : PlacedMpu) (key : UnitKey) → m.value.time.0 < 2 ^ 64 → time_for 1 (entry_of_mpu m) key < 2 ^ 64
unfolding time_for entry_of_mpu
time-of-key m (keys.Item item) l = l
time-of-key m (keys.Timed movie_fragment sample offset) l =
    go (nat_le 1 sample && nat_lt (sample - 1) (length (entry_of_mpu m).aus))
  where
    go : (b : Bool) → cond b (get_or (entry_of_mpu m).aus (sample - 1) m.value.time.0) m.value.time.0 < 2 ^ 64
    go true = get-below (2 ^ 64) m.value.time.0 (entry_of_mpu m).aus (sample - 1) l (aus-below m l)
    go false = l

due-of-unit : (programme : Programme) → FitsTicks programme → (u : ℕ) → u < length (all_units programme) → due_of_placed (unit_at programme u) < 2 ^ 60
unfolding due_of_placed time_of_unit
due-of-unit programme fits u l =
    let placed : IsPlacedUnit programme (unit_at programme u) = placed-unit programme u l in
    let time : (unit_at programme u).in_mpu.value.time.0 < 2 ^ 64 = omega (arith, ap (λ (m : PlacedMpu). m.value.time.0) placed.1, fits.times (unit_at programme u).mpu_place placed.0) in
    due-below (time_for 1 (entry_of_mpu (unit_at programme u).in_mpu) (unit_at programme u).value.key) (time-of-key (unit_at programme u).in_mpu (unit_at programme u).value.key time)

last-below : (m : PlacedMpu) → m.value.time.0 < 2 ^ 64 → last_due (entry_of_mpu m) < 2 ^ 60
unfolding last_due entry_of_mpu
last-below m l = due-below (fold max m.value.time.0 (entry_of_mpu m).aus) (max-below (2 ^ 64) m.value.time.0 (entry_of_mpu m).aus l (aus-below m l))

-- ---- copies

abbrev IsSoonCopy : TableCopy → Type 0
IsSoonCopy c = (c.first.0 < 2 ^ 60) × (c.last.0 < 2 ^ 60)

soon-copies : (programme : Programme) → AllByRecursion IsSoon (planned programme) → AllByRecursion IsSoonCopy (copies_as_sent programme)
soon-copies programme e =
    each-weaker (IsCopy programme) IsSoonCopy (copies_as_sent programme)
    (λ y is. (let t = table-below programme y.signal e in (omega (arith, t.0, ap (λ (c : TableCopy). c.first.0) is.is), omega (arith, t.1, ap (λ (c : TableCopy). c.last.0) is.is)))) (are-copies programme)

named-soon : (m : ℕ) (cs : List TableCopy) → AllByRecursion IsSoonCopy cs → TickFits (long_tick (named_from_of m cs))
unfolding named_from_of
named-soon m [] e = tt
named-soon m (c ∷ cs) e = go (member m c.names) (named_from_of m cs) (named-soon m cs e.1)
  where
    go : (b : Bool) (o : Option ℕ) → TickFits (long_tick o) → TickFits (long_tick (cond b (Some (least_with c.last.0 o)) o))
    go true None s = e.0.1
    go true (Some t) s = omega (arith, s, e.0.1)
    go false o s = s

few-copies : (programme : Programme) (n : ℕ) (xs : List Signal) → length (flat_map_from (copy_as_sent programme) n xs) ≤ length xs
unfolding flat_map_from copy_as_sent
few-copies programme n [] = omega arith
few-copies programme n (signals.Parameters at ∷ xs) = omega (arith, few-copies programme (n + 1) xs)
few-copies programme n (signals.Table at names ∷ xs) = omega (arith, few-copies programme (n + 1) xs)

-- ---- all

dues-below : (programme : Programme) → FitsTicks programme → AllByRecursion (λ x. due_of_placed x < 2 ^ 60) (all_units programme)
unfolding unit_at
dues-below programme fits = index-each (λ x. due_of_placed x < 2 ^ 60) (all_units programme) no_placed_unit (λ u l. due-of-unit programme fits u l)

mapped : (xs : List PlacedUnit) → AllByRecursion (λ x. due_of_placed x < 2 ^ 60) xs → AllByRecursion (λ n. n < 2 ^ 60) (map due_of_placed xs)
mapped [] e = tt
mapped (x ∷ xs) e = (e.0, mapped xs e.1)

unit-ticks : (programme : Programme) → FitsTicks programme → AllByRecursion IsSoon (planned programme) → (u : ℕ) → u < length (all_units programme)
    → ((sent_unit (cast_of programme) u).first.0 < 2 ^ 60) × ((sent_unit (cast_of programme) u).last.0 < 2 ^ 60) × ((sent_unit (cast_of programme) u).due.0 < 2 ^ 60)
unfolding unit_as_sent
unit-ticks programme fits e u l =
    let is : sent_unit (cast_of programme) u ≡ unit_as_sent programme u (unit_at programme u) = unit-sent programme u l in
    let s = unit-below programme u e in
    (omega (arith, s.0, ap (λ (x : SentUnit). x.first.0) is), omega (arith, s.1, ap (λ (x : SentUnit). x.last.0) is), omega (arith, due-of-unit programme fits u l, ap (λ (x : SentUnit). x.due.0) is))

mpu-ticks : (programme : Programme) → FitsTicks programme → AllByRecursion IsSoon (planned programme) → (m : ℕ) → m < length (all_mpus programme)
    → ((sent_mpu (cast_of programme) m).least.0 < 2 ^ 60) × ((sent_mpu (cast_of programme) m).last.0 < 2 ^ 60) × TickFits (sent_mpu (cast_of programme) m).named_from
unfolding mpu_as_sent
mpu-ticks programme fits e m l =
    let is : sent_mpu (cast_of programme) m ≡ mpu_as_sent programme m (mpu_at programme m) = mpu-sent programme m l in (
      omega (arith, least-below (2 ^ 60) _ (omega arith) (mapped _ (each-filter (λ x. due_of_placed x < 2 ^ 60) (λ y. y.mpu_place == m) (all_units programme) (dues-below programme fits))), ap (λ (x : SentMpu). x.least.0) is),
      omega (arith, last-below (mpu_at programme m) (fits.times m l), ap (λ (x : SentMpu). x.last.0) is),
      subst (λ (x : SentMpu). TickFits x.named_from) (sym is) (named-soon m (copies_as_sent programme) (soon-copies programme e)),
    )

copy-names : (programme : Programme) → IsRight programme → (c : ℕ) → c < length (copies_as_sent programme) → AllByRecursion (λ m. m < length (cast_of programme).mpus) (get_or (copies_as_sent programme) c no_table_copy).names
copy-names programme right c l =
    let is : IsCopy programme (get_or (copies_as_sent programme) c no_table_copy) = each-at (IsCopy programme) (copies_as_sent programme) c no_table_copy (are-copies programme) l in
    let known : NamesKnown programme (signals.Table is.at is.names) = subst (NamesKnown programme) is.table (right.known _ is.of) in
    subst (λ (y : TableCopy). AllByRecursion (λ m. m < length (cast_of programme).mpus) y.names) (sym is.is) (known-names programme is.names known)

pub readable : CastsAreReadable
unfolding table_copy cast_of copies_as_sent
readable programme right fits none =
    let soon = soon-planned programme fits none in
    record {
      packets = record { few = omega (arith, length-sort is_sent_before (planned programme), few-packets programme none); ticks = All-from_recursion IsSoon (cast_of programme).packets (soon-sent programme fits none) };
      few_units = omega (arith, length-units programme, fits.few_units);
      few_mpus = omega (arith, length-mpus programme, fits.few_mpus);
      few_copies = omega (arith, few-copies programme 0 programme.signals, fits.few_signals);
      units = λ u l. unit-ticks programme fits soon u (omega (arith, l, length-units programme));
      mpus = λ m l. mpu-ticks programme fits soon m (omega (arith, l, length-mpus programme));
      copies = λ c l.
          (let ticks = each-at IsSoonCopy (copies_as_sent programme) c no_table_copy (soon-copies programme soon) l in
          (ticks.0, ticks.1, All-from_recursion (λ m. m < length (cast_of programme).mpus) _ (copy-names programme right c l)));
    }
