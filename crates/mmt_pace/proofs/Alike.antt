-- What all casts of a programme have in common: all but the ticks.
use Rattle.std.proofs.Common.{◌≡◌, inl, inr, ℕ, ◌+◌, ◌<◌, zero, suc, List, [], ◌∷◌, length, map, get_or, arith, refl, ap, ap₂, sym, ◌∙◌, subst}
use Rattle.std.specs.List.{AllByRecursion}
use Rattle.mmt_admit.specs.Faults.{IsReadable}
use Rattle.mmt_cast.proofs.Listing.{IsIn, each-at, each-sort, in-at, in-sort}
use Rattle.mmt_cast.proofs.Placed.{each-map_from_at}
use Rattle.mmt_cast.specs.Casting.{cast_of, is_sent_before}
use Rattle.mmt_cast.specs.Placing.{map_from}
use Rattle.mmt_model.specs.Carrying.{Contents, copy_place, entry_of_unit, mpu_of, mpu_place, no_sent_unit, no_table_copy, sent_unit, table_copy}
use Rattle.mmt_model.specs.Survival.{no_packet}
use Rattle.mmt_model.specs.declared.casts.Carries.{Carries}
use Rattle.mmt_model.specs.declared.casts.Cast.{Cast}
use Rattle.mmt_model.specs.declared.casts.Sent.{Sent}
use Rattle.mmt_model.specs.declared.casts.SentUnit.{SentUnit}
use Rattle.mmt_model.specs.declared.casts.TableCopy.{TableCopy}
use Rattle.mmt_model.specs.declared.programmes.Params.{Params}
use Rattle.mmt_model.specs.declared.programmes.Programme.{Programme}
use Rattle.mmt_pace.proofs.Moved.{length-sorted, moved, moved-in, sorted_at}
use Rattle.mmt_pace.proofs.Reading.{copies-many, copy-places, mpu-places, units-many}
use Rattle.mmt_pace.specs.Recast.{IsItsCast, at_tick, copy_in_packets, recast, retimed, unit_in_packets}

-- ---- packets

-- what holds of the packets of a cast, whatever their ticks, holds of them at other ticks
recast-each : (ticks : ℕ → ℕ) (cast : Cast) (P : Sent → Type 0) → ((tick : ℕ) (p : Sent) → P p → P (at_tick tick p)) → AllByRecursion P cast.packets → AllByRecursion P (recast ticks cast).packets
unfolding recast retimed
recast-each ticks cast P keeps all =
    each-sort P is_sent_before (retimed ticks cast.packets) (each-map_from_at P (λ n p. at_tick (ticks n) p) 0 cast.packets no_packet (λ j l. keeps (ticks (0 + j)) (get_or cast.packets j no_packet) (each-at P cast.packets j no_packet all l)))

pub each-alike : (programme : Programme) (cast : Cast) → IsItsCast programme cast → (P : Sent → Type 0) → ((tick : ℕ) (p : Sent) → P p → P (at_tick tick p)) → AllByRecursion P (cast_of programme).packets → AllByRecursion P cast.packets
each-alike programme cast (inl e) P keeps all = subst (λ (c : Cast). AllByRecursion P c.packets) (sym e) all
each-alike programme cast (inr (ticks, e)) P keeps all = subst (λ (c : Cast). AllByRecursion P c.packets) (sym e) (recast-each ticks (cast_of programme) P keeps all)

-- where something is at a place
place-in : (z : Sent) (xs : List Sent) → IsIn z xs → (m : ℕ) × (m < length xs) × (get_or xs m no_packet ≡ z)
place-in z [] i = absurd i
place-in z (x ∷ xs) (inl e) = (0, omega arith, e)
place-in z (x ∷ xs) (inr i) = let r = place-in z xs i in (suc r.0, omega (arith, r.1), r.2)

-- a packet that carries the same
abbrev pub IsSentIn : List Sent → Carries → Type 0
IsSentIn packets carries = (m : ℕ) × (m < length packets) × ((get_or packets m no_packet).carries ≡ carries)

recast-sent : (ticks : ℕ → ℕ) (cast : Cast) (n : ℕ) → n < length cast.packets → IsSentIn (recast ticks cast).packets (get_or cast.packets n no_packet).carries
unfolding recast
recast-sent ticks cast n l =
    let r = place-in (moved ticks cast.packets n) (sorted_at ticks cast.packets) (in-sort is_sent_before (moved ticks cast.packets n) (retimed ticks cast.packets) (moved-in ticks cast.packets n l)) in
    (r.0, r.1, ap (λ (q : Sent). q.carries) r.2)

-- each packet of the programme's cast is one of a cast of it
pub sent-alike : (programme : Programme) (cast : Cast) → IsItsCast programme cast → (n : ℕ) → n < length (cast_of programme).packets → IsSentIn cast.packets (get_or (cast_of programme).packets n no_packet).carries
sent-alike programme cast (inl e) n l = subst (λ (c : Cast). IsSentIn c.packets (get_or (cast_of programme).packets n no_packet).carries) (sym e) (n, l, refl)
sent-alike programme cast (inr (ticks, e)) n l = subst (λ (c : Cast). IsSentIn c.packets (get_or (cast_of programme).packets n no_packet).carries) (sym e) (recast-sent ticks (cast_of programme) n l)

-- ---- units, MPUs and table copies

-- a unit in a cast is the one in another but for its ticks
pub record IsUnitAs (x y : SentUnit) : Type 0 where
  pub asset : x.asset ≡ y.asset
  pub mpu : x.mpu ≡ y.mpu
  pub unit : x.unit ≡ y.unit
  pub count : x.count ≡ y.count

units-at : (packets : List Sent) (n : ℕ) (xs : List SentUnit) (u : ℕ) → IsUnitAs (get_or (map_from (unit_in_packets packets) n xs) u no_sent_unit) (get_or xs u no_sent_unit)
unfolding map_from unit_in_packets
units-at packets n [] u = record { asset = refl; mpu = refl; unit = refl; count = refl }
units-at packets n (x ∷ xs) zero = record { asset = refl; mpu = refl; unit = refl; count = refl }
units-at packets n (x ∷ xs) (suc u) = units-at packets (n + 1) xs u

-- a table copy likewise
pub record IsCopyAs (x y : TableCopy) : Type 0 where
  pub signal : x.signal ≡ y.signal
  pub count : x.count ≡ y.count

copies-at : (packets : List Sent) (xs : List TableCopy) (c : ℕ) (d : TableCopy) → IsCopyAs (get_or (map (copy_in_packets packets) xs) c d) (get_or xs c d)
unfolding copy_in_packets
copies-at packets [] c d = record { signal = refl; count = refl }
copies-at packets (x ∷ xs) zero d = record { signal = refl; count = refl }
copies-at packets (x ∷ xs) (suc c) d = copies-at packets xs c d

-- what two casts have in common
pub record AreAlike (new old : Cast) : Type 0 where
  pub params : new.params ≡ old.params
  pub units : length new.units ≡ length old.units
  pub unit : (u : ℕ) → IsUnitAs (sent_unit new u) (sent_unit old u)
  pub mpu : (asset mpu : ℕ) → mpu_place new.mpus asset mpu ≡ mpu_place old.mpus asset mpu
  pub copies : length new.copies ≡ length old.copies
  pub copy : (c : ℕ) (d : TableCopy) → IsCopyAs (get_or new.copies c d) (get_or old.copies c d)
  pub place : (s : ℕ) → copy_place new.copies s ≡ copy_place old.copies s

recast-params : (ticks : ℕ → ℕ) (cast : Cast) → (recast ticks cast).params ≡ cast.params
unfolding recast
recast-params ticks cast = refl

recast-unit : (ticks : ℕ → ℕ) (cast : Cast) (u : ℕ) → IsUnitAs (sent_unit (recast ticks cast) u) (sent_unit cast u)
unfolding recast sent_unit
recast-unit ticks cast u = units-at (retimed ticks cast.packets) 0 cast.units u

recast-copy : (ticks : ℕ → ℕ) (cast : Cast) (c : ℕ) (d : TableCopy) → IsCopyAs (get_or (recast ticks cast).copies c d) (get_or cast.copies c d)
unfolding recast
recast-copy ticks cast c d = copies-at (retimed ticks cast.packets) cast.copies c d

recast-alike : (ticks : ℕ → ℕ) (cast : Cast) → AreAlike (recast ticks cast) cast
recast-alike ticks cast = record {
  params = recast-params ticks cast;
  units = units-many ticks cast;
  unit = recast-unit ticks cast;
  mpu = mpu-places ticks cast;
  copies = copies-many ticks cast;
  copy = recast-copy ticks cast;
  place = copy-places ticks cast;
}

self-alike : (cast : Cast) → AreAlike cast cast
self-alike cast = record {
  params = refl;
  units = refl;
  unit = λ u. record { asset = refl; mpu = refl; unit = refl; count = refl };
  mpu = λ a b. refl;
  copies = refl;
  copy = λ c d. record { signal = refl; count = refl };
  place = λ s. refl;
}

-- a cast of a programme is its cast but for the ticks
pub alike : (programme : Programme) (cast : Cast) → IsItsCast programme cast → AreAlike cast (cast_of programme)
alike programme cast (inl e) = subst (λ (c : Cast). AreAlike c (cast_of programme)) (sym e) (self-alike (cast_of programme))
alike programme cast (inr (ticks, e)) = subst (λ (c : Cast). AreAlike c (cast_of programme)) (sym e) (recast-alike ticks (cast_of programme))

-- ---- what follows

pub params-alike : (programme : Programme) (cast : Cast) → IsItsCast programme cast → cast.params ≡ programme.params
unfolding cast_of
params-alike programme cast is = (alike programme cast is).params

pub mpu-alike : (programme : Programme) (cast : Cast) → IsItsCast programme cast → (u : ℕ) → mpu_of cast u ≡ mpu_of (cast_of programme) u
unfolding mpu_of
mpu-alike programme cast is u =
    let a = alike programme cast is in
    a.mpu (sent_unit cast u).asset (sent_unit cast u).mpu ∙ ap₂ (mpu_place (cast_of programme).mpus) (a.unit u).asset (a.unit u).mpu

pub entry-alike : (programme : Programme) (cast : Cast) (contents : Contents) → IsItsCast programme cast → (u : ℕ) → entry_of_unit cast contents u ≡ entry_of_unit (cast_of programme) contents u
unfolding entry_of_unit
entry-alike programme cast contents is u = ap contents.entry (mpu-alike programme cast is u)

-- in how many parts the table is sent that is a signalling message
pub parts-alike : (programme : Programme) (cast : Cast) → IsItsCast programme cast → (s : ℕ) → (table_copy cast (copy_place cast.copies s)).count ≡ (table_copy (cast_of programme) (copy_place (cast_of programme).copies s)).count
unfolding table_copy
parts-alike programme cast is s =
    let a = alike programme cast is in
    (a.copy (copy_place cast.copies s) no_table_copy).count ∙ ap (λ (c : ℕ). (get_or (cast_of programme).copies c no_table_copy).count) (a.place s)
