-- The cast of the made programme has no fault: the ten rules of admission hold of it.
use Rattle.std.proofs.Common.{◌≡◌, ℕ, ◌+◌, ◌-◌, ◌*◌, ◌%◌, ◌<◌, ◌≤◌, ◌==◌, ◌&&◌, ◌||◌, not, nat_lt, nat_le, zero, suc, min, Bool, true, false, inl, inr, cond, List, [], ◌∷◌, ◌++◌, map, length, get_or, count_by, Option, Some, None, arith, refl, ap, ap₂, sym, ◌∙◌, ⊎_elim, subst}
use Rattle.std.specs.List.{AllByRecursion, filter, flat_map, list_any}
use Rattle.std.proofs.lemmas.List.{length-append}
use Rattle.std.proofs.lemmas.Bool.{and_parts, cases_eq, cases_lt, eq-eqb, eqb-true, le-leb, lt-ltb}
use Rattle.std.proofs.lemmas.List.Sums.{count_by-le-length}
use Rattle.mmt_base.specs.declared.ticks.LongTick.{LongTick}
use Rattle.mmt_cast.proofs.Copies.{IsCopy, are-copies, copy_of, table-copied}
use Rattle.mmt_cast.proofs.FromRight.{cast-right}
use Rattle.mmt_cast.proofs.Listing.{IsIn, each-append, each-at, each-from, each-in, each-map_numbers, each-sort, in-at, in-left, in-map_numbers, in-right}
use Rattle.mmt_cast.proofs.Numbering.{flat}
use Rattle.mmt_cast.proofs.Placed.{IsPlacedUnit, known-place, mpu-place, placed-units}
use Rattle.mmt_cast.proofs.Reading.{length-mpus, length-units, mpu-sent, unit-sent}
use Rattle.mmt_cast.specs.Casting.{cast_of, copies_as_sent, due_of_placed, is_sent_before, least, long_tick, mpu_as_sent, place_of_mpu, planned, unit_as_sent, with_number}
use Rattle.mmt_cast.specs.Placing.{PlacedMpu, PlacedUnit, all_mpus, all_units, entry_of_mpu}
use Rattle.mmt_cast.specs.Right.{NamesKnown, mpu_at, no_placed_mpu, no_placed_unit, no_signal, signal_at, unit_at}
use Rattle.mmt_cast.specs.Sending.{sendings}
use Rattle.mmt_cast.specs.Tables.{table_message_length}
use Rattle.mmt_delivery.proofs.Carried.{length-range}
use Rattle.mmt_frag.specs.Cuts.{parts}
use Rattle.mmt_made.proofs.Lists.{each-flat}
use Rattle.mmt_made.proofs.MadeLists.{audio_mpu, audio_unit, item_sent, item_there, mpus-are, units-are, video_mpu, video_unit}
use Rattle.mmt_made.proofs.MadePackets.{IsNearStart, block_low, load-fits, plan-near, plan-rises, start-passes, table-parts}
use Rattle.mmt_made.proofs.MadeSpans.{IsTableSpan, table-span, unit-span}
use Rattle.mmt_made.proofs.MadeTimes.{IsLast, IsTimely, all-last, all-timely, each-mpu, lowest}
use Rattle.mmt_made.proofs.PlanOrder.{Pairs, each-both, numbered-each, numbers-pass, pairs-append, sent-in-order}
use Rattle.mmt_made.proofs.RightMade.{made-right, names-are, names_if}
use Rattle.mmt_made.specs.Generator.{all_signals, block, is_last, made_programme, names_at, tick_at}
use Rattle.mmt_model.specs.Admission.{Fault, fault, fault_of_copy, fault_of_gap, fault_of_key, fault_of_live, fault_of_load, fault_of_mpu, fault_of_name, fault_of_naming, fault_of_number, fault_of_params, fault_of_unit, first_among, first_below, is_named_by, is_of_one_mpu, live_at, or_else, sample_or_item, unless}
use Rattle.mmt_model.specs.Carrying.{copy_place, least_with, named_from_of, no_table_copy, numbers, sent_mpu, sent_unit, table_copy}
use Rattle.mmt_model.specs.Counts.{member}
use Rattle.mmt_model.specs.Entries.{last_due}
use Rattle.mmt_model.specs.Handing.{key_numbers, precedes}
use Rattle.mmt_model.specs.Right.{IsKnown}
use Rattle.mmt_model.specs.Survival.{load, no_packet, sent_at}
use Rattle.mmt_model.specs.declared.casts.Cast.{Cast}
use Rattle.mmt_model.specs.declared.casts.Sent.{Sent}
use Rattle.mmt_model.specs.declared.casts.SentMpu.{SentMpu}
use Rattle.mmt_model.specs.declared.casts.SentUnit.{SentUnit}
use Rattle.mmt_model.specs.declared.casts.TableCopy.{TableCopy}
use Rattle.mmt_model.specs.declared.programmes.Programme.{Programme}
use Rattle.mmt_model.specs.declared.programmes.Signal.{Signal}
use Rattle.mmt_model.specs.declared.programmes.Signal.TheVariants as signals

-- ---- no fault of several

abbrev made_cast : Cast
made_cast = cast_of made_programme

neither : (a b : Option Fault) → a ≡ None → b ≡ None → or_else a b ≡ None
neither None b e f = f
neither (Some x) b e f = e

passes : (t : Bool) (rule number found allowed : ℕ) → t ≡ true → unless t rule number found allowed ≡ None
passes true rule number found allowed e = refl
passes false rule number found allowed e = absurd cc

none-below : (f : ℕ → Option Fault) (n : ℕ) → ((i : ℕ) → i < n → f i ≡ None) → first_below f n ≡ None
unfolding first_below
none-below f zero h = refl
none-below f (suc n) h = neither (first_below f n) (f n) (none-below f n (λ i l. h i (omega arith))) (h n (omega arith))

none-among : (f : ℕ → Option Fault) (ms : List ℕ) → AllByRecursion (λ m. f m ≡ None) ms → first_among f ms ≡ None
unfolding first_among
none-among f [] h = refl
none-among f (m ∷ ms) h = neither (f m) (first_among f ms) h.0 (none-among f ms h.1)

-- ---- rules 1 and 2

params-pass : fault_of_params made_cast.params ≡ None
unfolding fault_of_params cast_of made_programme
params-pass = refl

pub near-start : AllByRecursion IsNearStart made_cast.packets
unfolding cast_of planned with_number
near-start =
    each-sort IsNearStart is_sent_before (planned made_programme) (numbered-each IsNearStart (λ p n h. h) [] (flat made_programme (sendings made_programme)) plan-near)

pub near-at : (n : ℕ) → n < length made_cast.packets → (65536000 ≤ sent_at made_cast.packets n) × (sent_at made_cast.packets n ≤ 70000000)
unfolding sent_at
near-at n l = each-at IsNearStart made_cast.packets n no_packet near-start l

gap-passes : (n : ℕ) → n < length made_cast.packets → fault_of_gap made_cast.packets n ≡ None
unfolding fault_of_gap
gap-passes zero l = refl
gap-passes (suc n) l =
    let ps : List Sent = made_cast.packets in
    let a : ℕ = sent_at ps n in
    let b : ℕ = sent_at ps (suc n) in
    let low = near-at n (omega (arith, l)) in
    let high = near-at (suc n) l in
    neither (unless (nat_le a b) 2 (suc n) b a) (unless (nat_lt b (a + 1073741824)) 2 (suc n) b (a + 1073741823)) (passes (nat_le a b) 2 (suc n) b a (le-leb a b (sent-in-order made_programme n l)))
    (passes (nat_lt b (a + 1073741824)) 2 (suc n) b (a + 1073741823) (lt-ltb b (a + 1073741824) (omega (arith, low.0, high.1))))

-- ---- rule 4

unit-ok : (cast : Cast) (u : ℕ) → (sent_unit cast u).last.0 + cast.params.delay < (sent_unit cast u).due.0 → (sent_unit cast u).due.0 ≤ (sent_unit cast u).first.0 + cast.params.window → fault_of_unit cast u ≡ None
unfolding fault_of_unit
unit-ok cast u early late =
    let s : SentUnit = sent_unit cast u in
    neither (unless (nat_lt (s.last.0 + cast.params.delay) s.due.0) 4 u (s.last.0 + cast.params.delay) (s.due.0 - 1)) (unless (nat_le s.due.0 (s.first.0 + cast.params.window)) 4 u s.due.0 (s.first.0 + cast.params.window))
    (passes (nat_lt (s.last.0 + cast.params.delay) s.due.0) 4 u (s.last.0 + cast.params.delay) (s.due.0 - 1) (lt-ltb (s.last.0 + cast.params.delay) s.due.0 early))
    (passes (nat_le s.due.0 (s.first.0 + cast.params.window)) 4 u s.due.0 (s.first.0 + cast.params.window) (le-leb s.due.0 (s.first.0 + cast.params.window) late))

delay-is : made_cast.params.delay ≡ 6554
unfolding cast_of made_programme
delay-is = refl

window-is : made_cast.params.window ≡ 131072
unfolding cast_of made_programme
window-is = refl

bound-is : made_cast.params.bound ≡ 400000
unfolding cast_of made_programme
bound-is = refl

timely-at : (u : ℕ) → u < length (all_units made_programme) → IsTimely (unit_at made_programme u)
unfolding unit_at
timely-at u l = each-at IsTimely (all_units made_programme) u no_placed_unit all-timely l

unit-passes : (u : ℕ) → u < length made_cast.units → fault_of_unit made_cast u ≡ None
unfolding unit_as_sent
unit-passes u l =
    let lu : u < length (all_units made_programme) = omega (arith, l, length-units made_programme) in
    let is = unit-sent made_programme u lu in
    let span = unit-span u lu in
    let timely : IsTimely (unit_at made_programme u) = timely-at u lu in
    let last = ap (λ (s : SentUnit). s.last.0) is in
    let first = ap (λ (s : SentUnit). s.first.0) is in
    let due = ap (λ (s : SentUnit). s.due.0) is in
    unit-ok made_cast u (omega (arith, last, due, span.1, timely.early, delay-is)) (omega (arith, first, due, span.0, timely.late, window-is))

-- ---- rule 5

-- a signalling message is that of a block
abbrev IsOfBlock : Signal → Type 0
IsOfBlock (signals.Parameters at) = Unit {0}
IsOfBlock (signals.Table at names) = (b : ℕ) × (b < 120) × (at.0 ≡ block_low b) × (names ≡ names_at b)

all-of-blocks : AllByRecursion IsOfBlock made_programme.signals
unfolding made_programme
all-of-blocks = each-flat IsOfBlock block 0 120 (λ b lo hi. (tt, ((b, omega (arith, hi), refl, refl), tt)))

of-block : (s : ℕ) (at : LongTick) (names : List (ℕ × ℕ)) → s < length made_programme.signals → signal_at made_programme s ≡ signals.Table at names → IsOfBlock (signals.Table at names)
unfolding signal_at
of-block s at names l e = subst IsOfBlock e (each-at IsOfBlock made_programme.signals s no_signal all-of-blocks l)

-- a name is of an MPU that is due later than the table of a block and the delay
due-after : (b : ℕ) → b < 120 → AllByRecursion (λ (name : ℕ × ℕ). block_low b + 6854 < lowest name.0 name.1) (names_at b)
due-after b l = subst (AllByRecursion (λ (name : ℕ × ℕ). block_low b + 6854 < lowest name.0 name.1)) (sym (names-are b)) (go (is_last b))
  where
    go : (last : Bool) → AllByRecursion (λ (name : ℕ × ℕ). block_low b + 6854 < lowest name.0 name.1) (names_if last b)
    go true = (omega arith, (omega arith, (omega (arith, l), tt)))
    go false = (omega arith, (omega arith, (omega arith, (omega arith, tt))))

named-place : (ms : List PlacedMpu) (name : ℕ × ℕ) → place_of_mpu ms name < length ms
    → ((get_or ms (place_of_mpu ms name) no_placed_mpu).asset ≡ name.0) × ((get_or ms (place_of_mpu ms name) no_placed_mpu).mpu ≡ name.1)
unfolding place_of_mpu
named-place [] name l = absurd (omega arith)
named-place (m ∷ ms) name l = go ((m.asset == name.0) && (m.mpu == name.1)) refl l (named-place ms name)
  where
    go : (t : Bool) → ((m.asset == name.0) && (m.mpu == name.1)) ≡ t → cond t 0 (suc (place_of_mpu ms name)) < suc (length ms)
        → (place_of_mpu ms name < length ms → ((get_or ms (place_of_mpu ms name) no_placed_mpu).asset ≡ name.0) × ((get_or ms (place_of_mpu ms name) no_placed_mpu).mpu ≡ name.1))
        → ((get_or (m ∷ ms) (cond t 0 (suc (place_of_mpu ms name))) no_placed_mpu).asset ≡ name.0) × ((get_or (m ∷ ms) (cond t 0 (suc (place_of_mpu ms name))) no_placed_mpu).mpu ≡ name.1)
    go true e l ih = let p = and_parts (m.asset == name.0) (m.mpu == name.1) e in (eqb-true m.asset name.0 p.0, eqb-true m.mpu name.1 p.1)
    go false e l ih = ih (omega (arith, l))

mpu-last : (m : ℕ) → m < length (all_mpus made_programme) → (sent_mpu made_cast m).last.0 ≡ last_due (entry_of_mpu (mpu_at made_programme m))
unfolding mpu_as_sent
mpu-last m l = ap (λ (s : SentMpu). s.last.0) (mpu-sent made_programme m l)

last-at : (m : ℕ) → m < length (all_mpus made_programme) → IsLast (mpu_at made_programme m)
unfolding mpu_at
last-at m l = each-at IsLast (all_mpus made_programme) m no_placed_mpu all-last l

name-due : (name : ℕ × ℕ) → (let m = place_of_mpu (all_mpus made_programme) name in m < length (all_mpus made_programme) → (lowest name.0 name.1 ≤ (sent_mpu made_cast m).last.0) × ((sent_mpu made_cast m).last.0 ≤ 70000000))
unfolding mpu_at
name-due name l =
    let m : ℕ = place_of_mpu (all_mpus made_programme) name in
    let is = named-place (all_mpus made_programme) name l in
    let last = last-at m l in
    (omega (arith, last.0, ap₂ lowest is.0 is.1, mpu-last m l), omega (arith, last.1, mpu-last m l))

name-ok : (cast : Cast) (c m : ℕ) → (table_copy cast c).last.0 + cast.params.delay < (sent_mpu cast m).last.0 → (sent_mpu cast m).last.0 ≤ (table_copy cast c).first.0 + 1073741824 → fault_of_name cast c m ≡ None
unfolding fault_of_name
name-ok cast c m early late =
    let y : TableCopy = table_copy cast c in
    let s : SentMpu = sent_mpu cast m in
    neither (unless (nat_lt (y.last.0 + cast.params.delay) s.last.0) 5 c (y.last.0 + cast.params.delay) (s.last.0 - 1)) (unless (nat_le s.last.0 (y.first.0 + 1073741824)) 5 c s.last.0 (y.first.0 + 1073741824))
    (passes (nat_lt (y.last.0 + cast.params.delay) s.last.0) 5 c (y.last.0 + cast.params.delay) (s.last.0 - 1) (lt-ltb (y.last.0 + cast.params.delay) s.last.0 early))
    (passes (nat_le s.last.0 (y.first.0 + 1073741824)) 5 c s.last.0 (y.first.0 + 1073741824) (le-leb s.last.0 (y.first.0 + 1073741824) late))

copy-ok : (cast : Cast) (c : ℕ) → AllByRecursion (λ m. fault_of_name cast c m ≡ None) (table_copy cast c).names → (table_copy cast c).last.0 + cast.params.delay < (table_copy cast c).first.0 + cast.params.window → fault_of_copy cast c ≡ None
unfolding fault_of_copy
copy-ok cast c each within =
    let y : TableCopy = table_copy cast c in
    neither (first_among (fault_of_name cast c) y.names) (unless (nat_lt (y.last.0 + cast.params.delay) (y.first.0 + cast.params.window)) 5 c (y.last.0 + cast.params.delay) (y.first.0 + cast.params.window - 1))
    (none-among (fault_of_name cast c) y.names each)
    (passes (nat_lt (y.last.0 + cast.params.delay) (y.first.0 + cast.params.window)) 5 c (y.last.0 + cast.params.delay) (y.first.0 + cast.params.window - 1) (lt-ltb (y.last.0 + cast.params.delay) (y.first.0 + cast.params.window) within))

each-map : {X Y : Type 0} (P : Y → Type 0) (f : X → Y) (xs : List X) → AllByRecursion (λ x. P (f x)) xs → AllByRecursion P (map f xs)
each-map P f [] h = tt
each-map P f (x ∷ xs) h = (h.0, each-map P f xs h.1)

some-bytes : (names : List (ℕ × ℕ)) → 1 ≤ table_message_length made_programme names
unfolding table_message_length
some-bytes names = omega arith

-- the ticks of a block's table
table-ticks : (s b : ℕ) (at : LongTick) (names : List (ℕ × ℕ)) → s < length made_programme.signals → signal_at made_programme s ≡ signals.Table at names → at.0 ≡ block_low b → names ≡ names_at b → IsTableSpan s (block_low b)
table-ticks s b at names l e tick is =
    subst (IsTableSpan s) tick (table-span s at names l e (some-bytes names) (omega (arith, ap (λ (ns : List (ℕ × ℕ)). parts (table_message_length made_programme ns) 1400) is, table-parts b)))

names-known : (s : ℕ) (at : LongTick) (names : List (ℕ × ℕ)) → s < length made_programme.signals → signal_at made_programme s ≡ signals.Table at names → AllByRecursion (IsKnown made_programme.assets) names
names-known s at names l e = subst (NamesKnown made_programme) e ((cast-right made_programme made-right).known s l)

copy-passes : (c : ℕ) → c < length made_cast.copies → fault_of_copy made_cast c ≡ None
unfolding cast_of table_copy
copy-passes c l =
    let y : TableCopy = get_or (copies_as_sent made_programme) c no_table_copy in
    let copy : IsCopy made_programme y = each-at (IsCopy made_programme) (copies_as_sent made_programme) c no_table_copy (are-copies made_programme) l in
    let of = of-block y.signal copy.at copy.names copy.of copy.table in
    let b : ℕ = of.0 in
    let span : IsTableSpan y.signal (block_low b) = table-ticks y.signal b copy.at copy.names copy.of copy.table of.2 of.3 in
    let first : y.first.0 ≡ block_low b = ap (λ (z : TableCopy). z.first.0) copy.is ∙ span.first in
    let last = ap (λ (z : TableCopy). z.last.0) copy.is in
    let ms : List PlacedMpu = all_mpus made_programme in
    let good : AllByRecursion (λ (name : ℕ × ℕ). (block_low b + 6854 < lowest name.0 name.1) × IsKnown made_programme.assets name) copy.names =
    each-both (λ (name : ℕ × ℕ). block_low b + 6854 < lowest name.0 name.1) (IsKnown made_programme.assets) copy.names
    (subst (AllByRecursion (λ (name : ℕ × ℕ). block_low b + 6854 < lowest name.0 name.1)) (sym of.3) (due-after b of.1)) (names-known y.signal copy.at copy.names copy.of copy.table) in
    let each : AllByRecursion (λ m. fault_of_name made_cast c m ≡ None) (map (place_of_mpu ms) copy.names) =
    each-map (λ m. fault_of_name made_cast c m ≡ None) (place_of_mpu ms) copy.names
    (each-from (λ name. fault_of_name made_cast c (place_of_mpu ms name) ≡ None) copy.names
    (λ name i.
    (let g = each-in (λ (name : ℕ × ℕ). (block_low b + 6854 < lowest name.0 name.1) × IsKnown made_programme.assets name) name copy.names good i in
    let due = name-due name (known-place made_programme name g.1) in
    name-ok made_cast c (place_of_mpu ms name) (omega (arith, last, span.last, g.0, due.0, delay-is)) (omega (arith, first, due.1))))) in
    copy-ok made_cast c (subst (AllByRecursion (λ m. fault_of_name made_cast c m ≡ None)) (sym (ap (λ (z : TableCopy). z.names) copy.is)) each) (omega (arith, first, last, span.last, delay-is, window-is))

-- ---- rules 6 and 7

load-passes : (n : ℕ) → n < length made_cast.packets → fault_of_load made_cast n ≡ None
unfolding fault_of_load
load-passes n l =
    let bytes : ℕ = load made_cast.packets made_cast.params.window (sent_at made_cast.packets n) in
    passes (nat_le bytes made_cast.params.bound) 6 n bytes made_cast.params.bound
    (le-leb bytes made_cast.params.bound (omega (arith, ap (λ w. load made_cast.packets w (sent_at made_cast.packets n)) window-is, load-fits (sent_at made_cast.packets n), bound-is)))

few-mpus : length (all_mpus made_programme) ≡ 241
few-mpus = omega (arith, ap length mpus-are, length-append (map video_mpu (numbers 0 120)) (map audio_mpu (numbers 0 120) ++ item_there ∷ []), length-append (map audio_mpu (numbers 0 120)) (item_there ∷ []), length-range video_mpu 120, length-range audio_mpu 120)

live-passes : (c : ℕ) → fault_of_live made_cast c ≡ None
unfolding fault_of_live live_at
live-passes c =
    let tick : ℕ = (table_copy made_cast c).last.0 in
    let live : ℕ = count_by (λ (m : SentMpu). is_named_by tick m.named_from && nat_lt tick m.last.0) made_cast.mpus in
    passes (nat_le live 1024) 7 c live 1024
    (le-leb live 1024 (omega (arith, count_by-le-length (λ (m : SentMpu). is_named_by tick m.named_from && nat_lt tick m.last.0) made_cast.mpus, length-mpus made_programme, few-mpus)))

-- ---- rule 8

-- of two units of one MPU the first has the lower key
abbrev HasLowerKey : PlacedUnit → PlacedUnit → Type 0
HasLowerKey x y = x.in_mpu.asset ≡ y.in_mpu.asset → x.in_mpu.mpu ≡ y.in_mpu.mpu → precedes (key_numbers x.value.key) (key_numbers y.value.key) ≡ true

pairs-of : {X : Type 0} (R : X → X → Type 0) (f : ℕ → X) (n j : ℕ) → ((i k : ℕ) → i < k → R (f i) (f k)) → Pairs R (map f (numbers j n))
unfolding numbers
pairs-of R f zero j h = tt
pairs-of R f (suc n) j h = (each-map_numbers (R (f j)) f (j + 1) n (λ k lo hi. h j k (omega (arith, lo))), pairs-of R f n (j + 1) h)

pairs-at : {X : Type 0} (R : X → X → Type 0) (xs : List X) (i : ℕ) (d : X) → Pairs R xs → suc i < length xs → R (get_or xs i d) (get_or xs (suc i) d)
pairs-at R [] i d h l = absurd (omega arith)
pairs-at R (x ∷ []) i d h l = absurd (omega arith)
pairs-at R (x ∷ y ∷ xs) zero d h l = h.0.0
pairs-at R (x ∷ y ∷ xs) (suc i) d h l = pairs-at R (y ∷ xs) i d h.1 (omega arith)

lower-sample : (s t : ℕ) → s < t → precedes (1 ∷ 1 ∷ s ∷ 0 ∷ []) (1 ∷ 1 ∷ t ∷ 0 ∷ []) ≡ true
unfolding precedes
lower-sample s t l = ap (λ (b : Bool). b || ((s == t) && precedes (0 ∷ []) (0 ∷ []))) (lt-ltb s t l)

video-keys : (i k : ℕ) → i < k → HasLowerKey (video_unit i) (video_unit k)
unfolding key_numbers
video-keys i k l asset mpu = lower-sample (i % 30 + 1) (k % 30 + 1) (omega (arith, l, mpu))

audio-keys : (i k : ℕ) → i < k → HasLowerKey (audio_unit i) (audio_unit k)
unfolding key_numbers
audio-keys i k l asset mpu = lower-sample (i % 8 + 1) (k % 8 + 1) (omega (arith, l, mpu))

-- units of one asset, and of greater ones after them
keys-join : (a : ℕ) (xs ys : List PlacedUnit) → Pairs HasLowerKey xs → Pairs HasLowerKey ys → AllByRecursion (λ (x : PlacedUnit). x.in_mpu.asset ≡ a) xs → AllByRecursion (λ (y : PlacedUnit). a < y.in_mpu.asset) ys → Pairs HasLowerKey (xs ++ ys)
keys-join a xs ys px py own other =
    pairs-append HasLowerKey xs ys px py
    (λ x y i j asset mpu. absurd (omega (arith, asset, each-in (λ (x : PlacedUnit). x.in_mpu.asset ≡ a) x xs own i, each-in (λ (y : PlacedUnit). a < y.in_mpu.asset) y ys other j)))

all-keys : Pairs HasLowerKey (all_units made_programme)
all-keys =
    let videos : List PlacedUnit = map video_unit (numbers 0 3600) in
    let audios : List PlacedUnit = map audio_unit (numbers 0 960) in
    let items : List PlacedUnit = item_sent ∷ [] in
    subst (Pairs HasLowerKey) (sym units-are)
    (keys-join 0 videos (audios ++ items) (pairs-of HasLowerKey video_unit 3600 0 video-keys)
    (keys-join 1 audios items (pairs-of HasLowerKey audio_unit 960 0 audio-keys) (tt, tt) (each-map_numbers (λ (x : PlacedUnit). x.in_mpu.asset ≡ 1) audio_unit 0 960 (λ k lo hi. refl)) (omega arith, tt))
    (each-map_numbers (λ (x : PlacedUnit). x.in_mpu.asset ≡ 0) video_unit 0 3600 (λ k lo hi. refl))
    (each-append (λ (y : PlacedUnit). 0 < y.in_mpu.asset) audios items (each-map_numbers (λ (y : PlacedUnit). 0 < y.in_mpu.asset) audio_unit 0 960 (λ k lo hi. omega arith)) (omega arith, tt)))

key-at : (u : ℕ) → suc u < length (all_units made_programme) → HasLowerKey (unit_at made_programme u) (unit_at made_programme (suc u))
unfolding unit_at
key-at u l = pairs-at HasLowerKey (all_units made_programme) u no_placed_unit all-keys l

key-ok : (cast : Cast) (u : ℕ)
    → ((sent_unit cast u).asset ≡ (sent_unit cast (suc u)).asset → (sent_unit cast u).mpu ≡ (sent_unit cast (suc u)).mpu → precedes (key_numbers (sent_unit cast u).key) (key_numbers (sent_unit cast (suc u)).key) ≡ true)
    → fault_of_key cast (suc u) ≡ None
unfolding fault_of_key is_of_one_mpu
key-ok cast u h =
    let x : SentUnit = sent_unit cast u in
    let y : SentUnit = sent_unit cast (suc u) in
    let lower : Bool = precedes (key_numbers x.key) (key_numbers y.key) in
    passes (not ((x.asset == y.asset) && (x.mpu == y.mpu)) || lower) 8 (suc u) (sample_or_item y.key) (sample_or_item x.key)
    (go (x.asset == y.asset) (x.mpu == y.mpu) lower (λ a m. h (eqb-true x.asset y.asset a) (eqb-true x.mpu y.mpu m)))
  where
    go : (a m lower : Bool) → (a ≡ true → m ≡ true → lower ≡ true) → (not (a && m) || lower) ≡ true
    go true true lower h = h refl refl
    go true false lower h = refl
    go false m lower h = refl

no-key : (cast : Cast) → fault_of_key cast 0 ≡ None
unfolding fault_of_key
no-key cast = refl

sent-key : (u : ℕ) → HasLowerKey (unit_at made_programme u) (unit_at made_programme (suc u)) → (let x = unit_as_sent made_programme u (unit_at made_programme u) in let y = unit_as_sent made_programme (suc u) (unit_at made_programme (suc u)) in
    x.asset ≡ y.asset → x.mpu ≡ y.mpu → precedes (key_numbers x.key) (key_numbers y.key) ≡ true)
unfolding unit_as_sent
sent-key u h = h

key-passes : (u : ℕ) → u < length made_cast.units → fault_of_key made_cast u ≡ None
key-passes zero l = no-key made_cast
key-passes (suc u) l =
    let lu : suc u < length (all_units made_programme) = omega (arith, l, length-units made_programme) in
    let x = unit-sent made_programme u (omega (arith, lu)) in
    let y = unit-sent made_programme (suc u) lu in
    let h = key-at u lu in
    key-ok made_cast u
    (λ a m. subst (λ (s : SentUnit). precedes (key_numbers s.key) (key_numbers (sent_unit made_cast (suc u)).key) ≡ true) (sym x)
    (subst (λ (s : SentUnit). precedes (key_numbers (unit_as_sent made_programme u (unit_at made_programme u)).key) (key_numbers s.key) ≡ true) (sym y)
    (sent-key u h (sym (ap (λ (s : SentUnit). s.asset) x) ∙ (a ∙ ap (λ (s : SentUnit). s.asset) y)) (sym (ap (λ (s : SentUnit). s.mpu) x) ∙ (m ∙ ap (λ (s : SentUnit). s.mpu) y)))))

-- ---- rule 10

-- an MPU is named by the table of a block
record IsNamedAt (y : PlacedMpu) : Type 0 where
  at : ℕ
  within : at < 120
  named : IsIn (y.asset, y.mpu) (names_at at)

video-named : (b : ℕ) → b < 120 → IsNamedAt (video_mpu b)
video-named b l = record { at = b; within = l; named = subst (IsIn (0, b)) (sym (names-are b)) (go (is_last b)) }
  where
    go : (last : Bool) → IsIn (0, b) (names_if last b)
    go true = inl refl
    go false = inl refl

audio-named : (b : ℕ) → b < 120 → IsNamedAt (audio_mpu b)
audio-named b l = record { at = b; within = l; named = subst (IsIn (1, b)) (sym (names-are b)) (go (is_last b)) }
  where
    go : (last : Bool) → IsIn (1, b) (names_if last b)
    go true = inr (inl refl)
    go false = inr (inr (inl refl))

item-named : IsNamedAt item_there
item-named = record { at = 119; within = omega arith; named = subst (IsIn (2, 0)) (sym (names-are 119)) (inr (inr (inl refl))) }

named-at : (m : ℕ) → m < length (all_mpus made_programme) → IsNamedAt (mpu_at made_programme m)
unfolding mpu_at
named-at m l = each-at IsNamedAt (all_mpus made_programme) m no_placed_mpu (each-mpu IsNamedAt video-named audio-named item-named) l

-- an item of a list has a place
record HasPlace {X : Type 0} (x : X) (xs : List X) (d : X) : Type 0 where
  at : ℕ
  within : at < length xs
  is : get_or xs at d ≡ x

has-place : {X : Type 0} (x : X) (xs : List X) (d : X) → IsIn x xs → HasPlace x xs d
has-place x [] d i = absurd i
has-place x (y ∷ ys) d (inl e) = record { at = 0; within = omega arith; is = e }
has-place x (y ∷ ys) d (inr i) = let h = has-place x ys d i in record { at = suc h.at; within = omega (arith, h.within); is = h.is }

in-flat : {X : Type 0} (f : ℕ → List X) (x : X) (n j k : ℕ) → j ≤ k → k < j + n → IsIn x (f k) → IsIn x (flat_map f (numbers j n))
unfolding numbers
in-flat f x zero j k lo hi i = absurd (omega (arith, lo, hi))
in-flat f x (suc n) j k lo hi i =
    ⊎_elim (λ (e : j ≡ k). in-left x (f j) (flat_map f (numbers (j + 1) n)) (subst (λ m. IsIn x (f m)) (sym e) i))
    (λ (ne : j ≡ k → ⊥). in-right x (f j) (flat_map f (numbers (j + 1) n)) (in-flat f x n (j + 1) k (omega (arith, lo, ne)) (omega (arith, hi)) i)) (cases_eq j k)

table-there : (b : ℕ) → b < 120 → HasPlace (signals.Table (tick_at (32768 * b)) (names_at b)) made_programme.signals no_signal
unfolding made_programme
table-there b l = has-place (signals.Table (tick_at (32768 * b)) (names_at b)) all_signals no_signal (in-flat block (signals.Table (tick_at (32768 * b)) (names_at b)) 120 0 b (omega arith) (omega (arith, l)) (inr (inl refl)))

is-member : (f : ℕ × ℕ → ℕ) (name : ℕ × ℕ) (m : ℕ) (names : List (ℕ × ℕ)) → f name ≡ m → IsIn name names → member m (map f names) ≡ true
unfolding member
is-member f name m [] e i = absurd i
is-member f name m (n ∷ ns) e (inl same) = ap (λ (t : Bool). t || list_any (λ k. k == m) (map f ns)) (eq-eqb (f n) m (ap f same ∙ e))
is-member f name m (n ∷ ns) e (inr i) = go (f n == m) (is-member f name m ns e i)
  where
    go : (t : Bool) → list_any (λ k. k == m) (map f ns) ≡ true → (t || list_any (λ k. k == m) (map f ns)) ≡ true
    go true h = refl
    go false h = h

-- the least tick at which a copy that names an MPU ends is there and no greater than that of any
record IsFromAtMost (m bound : ℕ) (cs : List TableCopy) : Type 0 where
  tick : ℕ
  is : named_from_of m cs ≡ Some tick
  most : tick ≤ bound

-- a tick that is there and no greater than this
record IsAtMost (bound : ℕ) (o : Option ℕ) : Type 0 where
  tick : ℕ
  is : o ≡ Some tick
  most : tick ≤ bound

with-own : (n : ℕ) (o : Option ℕ) (bound : ℕ) → n ≤ bound → IsAtMost bound (Some (least_with n o))
with-own n None bound l = record { tick = n; is = refl; most = l }
with-own n (Some k) bound l = record { tick = min n k; is = refl; most = omega (arith, l) }

with-other : (n : ℕ) (o : Option ℕ) (bound : ℕ) → IsAtMost bound o → IsAtMost bound (Some (least_with n o))
with-other n None bound h = absurd (none_some h.tick h.is)
  where
    none_some : (k : ℕ) → ◌≡◌ {A = Option ℕ} None (Some k) → ⊥
    none_some k e = absurd cc
with-other n (Some k) bound h = record { tick = min n k; is = refl; most = omega (arith, same k h.tick h.is, h.most) }
  where
    same : (a b : ℕ) → ◌≡◌ {A = Option ℕ} (Some a) (Some b) → a ≡ b
    same a b e = cc

named-by : (m : ℕ) (c : TableCopy) (cs : List TableCopy) → IsIn c cs → member m c.names ≡ true → IsAtMost c.last.0 (named_from_of m cs)
unfolding named_from_of
named-by m c [] i t = absurd i
named-by m c (d ∷ ds) (inl e) t =
    let t' : member m d.names ≡ true = ap (λ (z : TableCopy). member m z.names) e ∙ t in
    subst (λ (b : Bool). IsAtMost c.last.0 (cond b (Some (least_with d.last.0 (named_from_of m ds))) (named_from_of m ds))) (sym t') (with-own d.last.0 (named_from_of m ds) c.last.0 (omega (arith, ap (λ (z : TableCopy). z.last.0) e)))
named-by m c (d ∷ ds) (inr i) t = go (member m d.names) (named-by m c ds i t)
  where
    go : (b : Bool) → IsAtMost c.last.0 (named_from_of m ds) → IsAtMost c.last.0 (cond b (Some (least_with d.last.0 (named_from_of m ds))) (named_from_of m ds))
    go true h = with-other d.last.0 (named_from_of m ds) c.last.0 h
    go false h = h

-- the least of several numbers that are each at least this
least-from : (bound : ℕ) (ns : List ℕ) → AllByRecursion (λ n. bound ≤ n) ns → 1 ≤ length ns → bound ≤ least ns
unfolding least
least-from bound [] h l = absurd (omega arith)
least-from bound (n ∷ []) h l = h.0
least-from bound (n ∷ m ∷ ns) h l = omega (arith, h.0, least-from bound (m ∷ ns) h.1 (omega arith))

dues-from : (m bound : ℕ) (xs : List PlacedUnit) → AllByRecursion (λ x. x.mpu_place ≡ m → bound ≤ due_of_placed x) xs → AllByRecursion (λ n. bound ≤ n) (map due_of_placed (filter (λ x. x.mpu_place == m) xs))
dues-from m bound [] h = tt
dues-from m bound (x ∷ xs) h = go (x.mpu_place == m) refl (dues-from m bound xs h.1)
  where
    go : (t : Bool) → (x.mpu_place == m) ≡ t → AllByRecursion (λ n. bound ≤ n) (map due_of_placed (filter (λ x. x.mpu_place == m) xs))
        → AllByRecursion (λ n. bound ≤ n) (map due_of_placed (cond t (x ∷ filter (λ x. x.mpu_place == m) xs) (filter (λ x. x.mpu_place == m) xs)))
    go true e ih = (h.0 (eqb-true x.mpu_place m e), ih)
    go false e ih = ih

some-due : (m : ℕ) (x : PlacedUnit) (xs : List PlacedUnit) → IsIn x xs → x.mpu_place ≡ m → 1 ≤ length (map due_of_placed (filter (λ y. y.mpu_place == m) xs))
some-due m x [] i e = absurd i
some-due m x (y ∷ ys) (inl same) e =
    let t : (y.mpu_place == m) ≡ true = eq-eqb y.mpu_place m (ap (λ (z : PlacedUnit). z.mpu_place) same ∙ e) in
    subst (λ (b : Bool). 1 ≤ length (map due_of_placed (cond b (y ∷ filter (λ y. y.mpu_place == m) ys) (filter (λ y. y.mpu_place == m) ys)))) (sym t) (omega arith)
some-due m x (y ∷ ys) (inr i) e = go (y.mpu_place == m) (some-due m x ys i e)
  where
    go : (b : Bool) → 1 ≤ length (map due_of_placed (filter (λ y. y.mpu_place == m) ys)) → 1 ≤ length (map due_of_placed (cond b (y ∷ filter (λ y. y.mpu_place == m) ys) (filter (λ y. y.mpu_place == m) ys)))
    go true h = omega arith
    go false h = h

-- each MPU has a unit
record HasUnit (m : ℕ) : Type 0 where
  unit : PlacedUnit
  there : IsIn unit (all_units made_programme)
  at : unit.mpu_place ≡ m

has-unit : (m : ℕ) → m < 241 → HasUnit m
has-unit m l =
    let videos : List PlacedUnit = map video_unit (numbers 0 3600) in
    let audios : List PlacedUnit = map audio_unit (numbers 0 960) in
    let items : List PlacedUnit = item_sent ∷ [] in
    ⊎_elim
    (λ (v : m < 120).
    record { unit = video_unit (m * 30); there = subst (IsIn (video_unit (m * 30))) (sym units-are) (in-left (video_unit (m * 30)) videos (audios ++ items) (in-map_numbers video_unit 0 3600 (m * 30) (omega arith) (omega (arith, v)))); at = omega arith })
    (λ (past : 120 ≤ m).
    ⊎_elim
    (λ (a : m < 240).
    (let k : ℕ = (m - 120) * 8 in
    record {
      unit = audio_unit k;
      there = subst (IsIn (audio_unit k)) (sym units-are) (in-right (audio_unit k) videos (audios ++ items) (in-left (audio_unit k) audios items (in-map_numbers audio_unit 0 960 k (omega arith) (omega (arith, a, past)))));
      at = omega (arith, past);
    }))
    (λ (end : 240 ≤ m).
    record { unit = item_sent; there = subst (IsIn item_sent) (sym units-are) (in-right item_sent videos (audios ++ items) (in-right item_sent audios items (inl refl))); at = omega (arith, end, l) })
    (cases_lt m 240))
    (cases_lt m 120)

-- the units of an MPU are due no earlier than it
mpu-due : (m : ℕ) → m < length (all_mpus made_programme) → lowest (mpu_at made_programme m).asset (mpu_at made_programme m).mpu ≤ least (map due_of_placed (filter (λ y. y.mpu_place == m) (all_units made_programme)))
mpu-due m l =
    let bound : ℕ = lowest (mpu_at made_programme m).asset (mpu_at made_programme m).mpu in
    let us : List PlacedUnit = all_units made_programme in
    let some : HasUnit m = has-unit m (omega (arith, l, few-mpus)) in
    let each : AllByRecursion (λ (x : PlacedUnit). x.mpu_place ≡ m → bound ≤ due_of_placed x) us =
    each-from (λ (x : PlacedUnit). x.mpu_place ≡ m → bound ≤ due_of_placed x) us
    (λ x i e.
    (let timely : IsTimely x = each-in IsTimely x us all-timely i in
    let placed : IsPlacedUnit made_programme x = each-in (IsPlacedUnit made_programme) x us (placed-units made_programme) i in
    let is : mpu_at made_programme m ≡ x.in_mpu = ap (mpu_at made_programme) (sym e) ∙ placed.1 in
    omega (arith, timely.low, ap (λ (y : PlacedMpu). lowest y.asset y.mpu) is))) in
    least-from bound (map due_of_placed (filter (λ y. y.mpu_place == m) us)) (dues-from m bound us each) (some-due m some.unit us some.there some.at)

at-signal : (s : ℕ) {at : Signal} → get_or made_programme.signals s no_signal ≡ at → signal_at made_programme s ≡ at
unfolding signal_at
at-signal s e = e

-- an MPU is named early enough
record IsNamedEarly (m : ℕ) : Type 0 where
  named : IsAtMost (lowest (mpu_at made_programme m).asset (mpu_at made_programme m).mpu - 6755) (named_from_of m (copies_as_sent made_programme))
  late : 6755 ≤ lowest (mpu_at made_programme m).asset (mpu_at made_programme m).mpu

named-early : (m : ℕ) → m < length (all_mpus made_programme) → IsNamedEarly m
named-early m l =
    let y : PlacedMpu = mpu_at made_programme m in
    let named : IsNamedAt y = named-at m l in
    let b : ℕ = named.at in
    let at : LongTick = tick_at (32768 * b) in
    let place = table-there b named.within in
    let s : ℕ = place.at in
    let table : signal_at made_programme s ≡ signals.Table at (names_at b) = at-signal s place.is in
    let copied = table-copied made_programme s at (names_at b) place.within table in
    let c : TableCopy = copy_of made_programme s (names_at b) in
    let there : IsIn c (copies_as_sent made_programme) = subst (λ z. IsIn z (copies_as_sent made_programme)) copied.1 (in-at (copies_as_sent made_programme) (copy_place (copies_as_sent made_programme) s) no_table_copy copied.0) in
    let names : member m c.names ≡ true = is-member (place_of_mpu (all_mpus made_programme)) (y.asset, y.mpu) m (names_at b) (mpu-place made_programme m l) named.named in
    let from = named-by m c (copies_as_sent made_programme) there names in
    let span : IsTableSpan s (block_low b) = table-ticks s b at (names_at b) place.within table refl refl in
    let due = each-in (λ (name : ℕ × ℕ). block_low b + 6854 < lowest name.0 name.1) (y.asset, y.mpu) (names_at b) (due-after b named.within) named.named in
    record { named = record { tick = from.tick; is = from.is; most = omega (arith, from.most, span.last, due) }; late = omega (arith, due) }

naming-ok : (delay m least : ℕ) (o : Option ℕ) (bound : ℕ) → IsAtMost bound o → bound + delay < least → fault_of_naming delay m least (long_tick o) ≡ None
naming-ok delay m least o bound h l = go o h.tick h.is h.most
  where
    go : (o : Option ℕ) (tick : ℕ) → o ≡ Some tick → tick ≤ bound → fault_of_naming delay m least (long_tick o) ≡ None
    go None tick e most = absurd cc
    go (Some from) tick e most = let same : from ≡ tick = cc in passes (nat_lt (from + delay) least) 10 m (from + delay) (least - 1) (lt-ltb (from + delay) least (omega (arith, same, most, l)))

mpu-passes : (m : ℕ) → m < length made_cast.mpus → fault_of_mpu made_cast m ≡ None
unfolding fault_of_mpu mpu_as_sent
mpu-passes m l =
    let lm : m < length (all_mpus made_programme) = omega (arith, l, length-mpus made_programme) in
    let early : IsNamedEarly m = named-early m lm in
    let bound : ℕ = lowest (mpu_at made_programme m).asset (mpu_at made_programme m).mpu - 6755 in
    let first : ℕ = least (map due_of_placed (filter (λ y. y.mpu_place == m) (all_units made_programme))) in
    ap (λ (s : SentMpu). fault_of_naming made_cast.params.delay m s.least.0 s.named_from) (mpu-sent made_programme m lm)
    ∙ naming-ok made_cast.params.delay m first (named_from_of m (copies_as_sent made_programme)) bound early.named (omega (arith, early.late, mpu-due m lm, delay-is))

-- ---- all rules

-- the made programme's cast is admitted
pub no-fault : fault made_cast ≡ None
unfolding fault
no-fault =
    let gap : first_below (fault_of_gap made_cast.packets) (length made_cast.packets) ≡ None = none-below (fault_of_gap made_cast.packets) (length made_cast.packets) gap-passes in
    let number : first_below (fault_of_number made_cast.packets) (length made_cast.packets) ≡ None = none-below (fault_of_number made_cast.packets) (length made_cast.packets) (numbers-pass made_programme plan-rises) in
    let unit : first_below (fault_of_unit made_cast) (length made_cast.units) ≡ None = none-below (fault_of_unit made_cast) (length made_cast.units) unit-passes in
    let copy : first_below (fault_of_copy made_cast) (length made_cast.copies) ≡ None = none-below (fault_of_copy made_cast) (length made_cast.copies) copy-passes in
    let bytes : first_below (fault_of_load made_cast) (length made_cast.packets) ≡ None = none-below (fault_of_load made_cast) (length made_cast.packets) load-passes in
    let live : first_below (fault_of_live made_cast) (length made_cast.copies) ≡ None = none-below (fault_of_live made_cast) (length made_cast.copies) (λ c l. live-passes c) in
    let key : first_below (fault_of_key made_cast) (length made_cast.units) ≡ None = none-below (fault_of_key made_cast) (length made_cast.units) key-passes in
    let mpu : first_below (fault_of_mpu made_cast) (length made_cast.mpus) ≡ None = none-below (fault_of_mpu made_cast) (length made_cast.mpus) mpu-passes in
    neither _ _ params-pass (neither _ _ gap (neither _ _ number (neither _ _ unit (neither _ _ copy (neither _ _ bytes (neither _ _ live (neither _ _ key (neither _ _ start-passes mpu))))))))

-- so it is of a programme that is the made one
pub is-admitted : (programme : Programme) → programme ≡ made_programme → fault (cast_of programme) ≡ None
is-admitted programme is = subst (λ (p : Programme). fault (cast_of p) ≡ None) (sym is) no-fault
