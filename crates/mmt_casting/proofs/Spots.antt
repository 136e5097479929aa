-- Spots of a walk over the units of a programme: the first, and the next.
use Rattle.std.proofs.Common.{◌≡◌, ℕ, ◌+◌, ◌-◌, ◌<◌, ◌≤◌, ◌^◌, suc, zero, max, Bool, true, false, nat_le, nat_lt, cond, ⊎_elim, List, [], ◌∷◌, ◌++◌, length, get_or, drop, arith, refl, ap, ap₂, sym, ◌∙◌}
use Rattle.std.proofs.lemmas.Bool.{cases_lt, ltb-false, ltb-true}
use Rattle.std.proofs.lemmas.List.{at_drop_more, drop_all, drop-append-le, drop-drop, length-append, length-drop}
use Rattle.mmt_cast.proofs.FromRight.{ticks-fit}
use Rattle.mmt_cast.proofs.Listing.{length-map_from}
use Rattle.mmt_cast.proofs.Reading.{placed-unit}
use Rattle.mmt_cast.specs.Placing.{PlacedMpu, PlacedUnit, all_mpus, all_units, flat_map_from, map_from, mpus_of, units_of}
use Rattle.mmt_cast.specs.Right.{mpu_at, no_mpu, no_placed_mpu, no_placed_unit, unit_at}
use Rattle.mmt_cast.specs.Sending.{Sending, group_size, sending_of_units}
use Rattle.mmt_casting.proofs.Gathering.{header_of, new-later, sending-is, size-is}
use Rattle.mmt_casting.specs.Places.{IsGroup, IsSpot, asset_at, bytes_of, fits, goes_in, mpu_in, mpus_from, placed_at, placed_in, room_left, sending_at, size_at, size_of, spot_behind, unit_in, units_from}
use Rattle.mmt_casting.specs.declared.groups.Group.{Group}
use Rattle.mmt_casting.specs.declared.places.Spot.{Spot}
use Rattle.mmt_model.specs.Right.{IsRight, no_asset}
use Rattle.mmt_model.specs.declared.programmes.Asset.{Asset}
use Rattle.mmt_model.specs.declared.programmes.Programme.{Programme}
use Rattle.mmt_model.specs.declared.programmes.Unit.{Unit as PlannedUnit}

-- ---- lists

pub beyond : {X : Type 0} (xs : List X) (i : ℕ) (d : X) → length xs ≤ i → get_or xs i d ≡ d
beyond [] i d l = refl
beyond (x ∷ xs) zero d l = absurd (omega arith)
beyond (x ∷ xs) (suc i) d l = beyond xs i d (omega arith)

pub split-at : {X : Type 0} (xs : List X) (i : ℕ) (x : X) (rest : List X) (d : X) → drop i xs ≡ x ∷ rest → (i < length xs) × (get_or xs i d ≡ x) × (drop (suc i) xs ≡ rest)
split-at [] zero x rest d e = absurd cc
split-at [] (suc i) x rest d e = absurd cc
split-at (y ∷ ys) zero x rest d e = (omega arith, (let h : y ≡ x = cc in h), (let h : ys ≡ rest = cc in h))
split-at (y ∷ ys) (suc i) x rest d e = let s = split-at ys i x rest d e in (omega (arith, s.0), s.1, s.2)

drop-from : {X Y : Type 0} (f : ℕ → X → Y) (n k : ℕ) (xs : List X) → drop k (map_from f n xs) ≡ map_from f (n + k) (drop k xs)
unfolding map_from
drop-from f n zero xs = let z : n ≡ n + 0 = omega arith in ap (λ m. map_from f m xs) z
drop-from f n (suc k) [] = refl
drop-from f n (suc k) (x ∷ xs) = let s : n + 1 + k ≡ n + suc k = omega arith in drop-from f (n + 1) k xs ∙ ap (λ m. map_from f m (drop k xs)) s

-- each list that is joined is no longer than the whole
pub flat-long : {X Y : Type 0} (f : ℕ → X → List Y) (n : ℕ) (xs : List X) (j : ℕ) (d : X) → j < length xs → length (f (n + j) (get_or xs j d)) ≤ length (flat_map_from f n xs)
unfolding flat_map_from
flat-long f n [] j d l = absurd (omega arith)
flat-long f n (x ∷ xs) zero d l = let z : n + 0 ≡ n = omega arith in omega (arith, length-append (f n x) (flat_map_from f (n + 1) xs), ap (λ m. length (f m x)) z)
flat-long f n (x ∷ xs) (suc j) d l =
    let s : n + 1 + j ≡ n + suc j = omega arith in
    omega (arith, length-append (f n x) (flat_map_from f (n + 1) xs), flat-long f (n + 1) xs j d (omega arith), ap (λ m. length (f m (get_or xs j d))) s)

-- ---- MPUs

mpus-first : (programme : Programme) (a : ℕ) → flat_map_from mpus_of a (drop a programme.assets) ≡ mpus_from programme a 0
unfolding flat_map_from mpus_of mpus_from map_from
mpus-first programme a =
    ⊎_elim
    (λ (l : a < length programme.assets). at_drop_more (flat_map_from mpus_of a) programme.assets a no_asset l)
    (λ (ge : length programme.assets ≤ a).
    ap (flat_map_from mpus_of a) (drop_all a programme.assets ge)
    ∙ ap₂ (λ (x : Asset) (xs : List Asset). map_from (placed_in a x) 0 x.mpus ++ flat_map_from mpus_of (a + 1) xs) (sym (beyond programme.assets a no_asset ge)) (sym (drop_all (a + 1) programme.assets (omega arith))))
    (cases_lt a (length programme.assets))

mpus-next : (programme : Programme) (a b : ℕ) → b < length (asset_at programme a).mpus
    → mpus_from programme a b ≡ placed_in a (asset_at programme a) b (mpu_in (asset_at programme a) b) ∷ mpus_from programme a (b + 1)
unfolding mpus_from map_from
mpus-next programme a b l = at_drop_more (λ xs. map_from (placed_in a (asset_at programme a)) b xs ++ flat_map_from mpus_of (a + 1) (drop (a + 1) programme.assets)) (asset_at programme a).mpus b no_mpu l

mpus-past : (programme : Programme) (a b : ℕ) → length (asset_at programme a).mpus ≤ b → mpus_from programme a b ≡ mpus_from programme (a + 1) 0
unfolding mpus_from map_from
mpus-past programme a b l =
    ap (λ xs. map_from (placed_in a (asset_at programme a)) b xs ++ flat_map_from mpus_of (a + 1) (drop (a + 1) programme.assets)) (drop_all b (asset_at programme a).mpus l)
    ∙ mpus-first programme (a + 1)

-- ---- units

-- a spot at the first unit of an MPU
abbrev pub first_of_mpu : ℕ → ℕ → ℕ → ℕ → Spot
first_of_mpu a b m u = record { asset = a; mpu = b; unit = 0; mpu_place = m; unit_place = u }

units-first : (programme : Programme) (a b m u : ℕ) → b < length (asset_at programme a).mpus → flat_map_from units_of m (mpus_from programme a b) ≡ units_from programme (first_of_mpu a b m u)
unfolding flat_map_from units_of units_from
units-first programme a b m u l = ap (flat_map_from units_of m) (mpus-next programme a b l)

units-none : (programme : Programme) (a m u : ℕ) → length programme.assets ≤ a → units_from programme (first_of_mpu a 0 m u) ≡ []
unfolding units_from flat_map_from map_from mpus_from
units-none programme a m u ge =
    ap₂ (λ (x : Asset) (xs : List Asset). map_from (unit_in m (placed_in a x 0 (mpu_in x 0))) 0 (drop 0 (mpu_in x 0).units) ++ flat_map_from units_of (m + 1) (map_from (placed_in a x) 1 (drop 1 x.mpus) ++ flat_map_from mpus_of (a + 1) xs))
    (beyond programme.assets a no_asset ge) (drop_all (a + 1) programme.assets (omega arith))

mpus-none : (programme : Programme) (a : ℕ) → length programme.assets ≤ a → mpus_from programme a 0 ≡ []
unfolding mpus_from flat_map_from map_from
mpus-none programme a ge =
    ap₂ (λ (x : Asset) (xs : List Asset). map_from (placed_in a x) 0 (drop 0 x.mpus) ++ flat_map_from mpus_of (a + 1) xs) (beyond programme.assets a no_asset ge) (drop_all (a + 1) programme.assets (omega arith))

-- after the last unit of an MPU
units-past : (programme : Programme) (s : Spot) → length (placed_at programme s).value.units ≤ s.unit → units_from programme s ≡ flat_map_from units_of (s.mpu_place + 1) (mpus_from programme s.asset (s.mpu + 1))
unfolding units_from map_from
units-past programme s l =
    ap (λ xs. map_from (unit_in s.mpu_place (placed_at programme s)) s.unit xs ++ flat_map_from units_of (s.mpu_place + 1) (mpus_from programme s.asset (s.mpu + 1))) (drop_all s.unit (placed_at programme s).value.units l)

-- the spot of a unit of the same MPU, N further
abbrev pub further : Spot → ℕ → Spot
further s n = record { asset = s.asset; mpu = s.mpu; unit = s.unit + n; mpu_place = s.mpu_place; unit_place = s.unit_place + n }

units-further : (programme : Programme) (s : Spot) (n : ℕ) → s.unit + n ≤ length (placed_at programme s).value.units → drop n (units_from programme s) ≡ units_from programme (further s n)
unfolding units_from
units-further programme s n l =
    let units : List PlannedUnit = (placed_at programme s).value.units in
    let f : ℕ → PlannedUnit → PlacedUnit = unit_in s.mpu_place (placed_at programme s) in
    let later : List PlacedUnit = flat_map_from units_of (s.mpu_place + 1) (mpus_from programme s.asset (s.mpu + 1)) in
    drop-append-le n (map_from f s.unit (drop s.unit units)) later (omega (arith, length-map_from f s.unit (drop s.unit units), length-drop s.unit units))
    ∙ ap (λ xs. xs ++ later) (drop-from f s.unit n (drop s.unit units) ∙ ap (map_from f (s.unit + n)) (drop-drop n s.unit units))

left-further : (programme : Programme) (s : Spot) (n : ℕ) → IsSpot programme s → s.unit + n ≤ length (placed_at programme s).value.units → drop (s.unit_place + n) (all_units programme) ≡ units_from programme (further s n)
left-further programme s n is l = sym (drop-drop n s.unit_place (all_units programme)) ∙ (ap (drop n) is.left ∙ units-further programme s n l)

-- the unit of a spot, and those after it
pub record IsUnitOf (programme : Programme) (s : Spot) (x : PlannedUnit) : Type 0 where
  pub of : s.unit_place < length (all_units programme)
  pub is : unit_at programme s.unit_place ≡ unit_in s.mpu_place (placed_at programme s) s.unit x
  pub rest : drop (s.unit_place + 1) (all_units programme)
      ≡ map_from (unit_in s.mpu_place (placed_at programme s)) (s.unit + 1) (drop (s.unit + 1) (placed_at programme s).value.units) ++ flat_map_from units_of (s.mpu_place + 1) (mpus_from programme s.asset (s.mpu + 1))

pub unit-of : (programme : Programme) (s : Spot) (d : PlannedUnit) → IsSpot programme s → s.asset < length programme.assets → IsUnitOf programme s (get_or (placed_at programme s).value.units s.unit d)
unfolding units_from map_from unit_at
unit-of programme s d is l =
    let f : ℕ → PlannedUnit → PlacedUnit = unit_in s.mpu_place (placed_at programme s) in
    let later : List PlacedUnit = flat_map_from units_of (s.mpu_place + 1) (mpus_from programme s.asset (s.mpu + 1)) in
    let e = is.left ∙ at_drop_more (λ xs. map_from f s.unit xs ++ later) (placed_at programme s).value.units s.unit d (is.inside l).1 in
    let p = split-at (all_units programme) s.unit_place _ _ no_placed_unit e in
    let z : s.unit_place + 1 ≡ suc s.unit_place = omega arith in
    record { of = p.0; is = p.1; rest = ap (λ i. drop i (all_units programme)) z ∙ p.2 }

-- each asset has an MPU, and each MPU a unit
pub record IsFull (programme : Programme) : Type 0 where
  pub mpus : (a : ℕ) → a < length programme.assets → 0 < length (asset_at programme a).mpus
  pub units : (a b : ℕ) → a < length programme.assets → b < length (asset_at programme a).mpus → 0 < length (mpu_in (asset_at programme a) b).units

pub all-full : (programme : Programme) → IsRight programme → IsFull programme
all-full programme right = record { mpus = λ a l. (right.assets a no_asset l).some; units = λ a b l m. ((right.assets a no_asset l).mpus b no_mpu m).some }

-- the units of an asset and of those after it
units-next : (programme : Programme) → IsRight programme → (a m u : ℕ) → flat_map_from units_of m (mpus_from programme a 0) ≡ units_from programme (first_of_mpu a 0 m u)
unfolding flat_map_from
units-next programme right a m u =
    ⊎_elim
    (λ (l : a < length programme.assets). units-first programme a 0 m u ((all-full programme right).mpus a l))
    (λ (ge : length programme.assets ≤ a). ap (flat_map_from units_of m) (mpus-none programme a ge) ∙ sym (units-none programme a m u ge))
    (cases_lt a (length programme.assets))

-- ---- the first spot, and the next

pub first-spot : (programme : Programme) → IsRight programme → IsSpot programme (record { asset = 0; mpu = 0; unit = 0; mpu_place = 0; unit_place = 0 })
unfolding all_units all_mpus
first-spot programme right =
    let m : IsFull programme = all-full programme right in
    record {
      left = ap (flat_map_from units_of 0) (mpus-first programme 0) ∙ units-first programme 0 0 0 0 (m.mpus 0 (right.assets_some));
      mpus = mpus-first programme 0;
      inside = λ l. (m.mpus 0 l, m.units 0 0 l (m.mpus 0 l));
    }

-- the next spot stands in the same MPU, or at the first unit of the next one, or of the next asset
pub further-spot : (programme : Programme) (s : Spot) (n : ℕ) → IsSpot programme s → s.asset < length programme.assets → s.unit + n < length (placed_at programme s).value.units → IsSpot programme (further s n)
further-spot programme s n is l b = record { left = left-further programme s n is (omega arith); mpus = is.mpus; inside = λ l. ((is.inside l).0, b) }

mpus-behind : (programme : Programme) (s : Spot) → IsSpot programme s → s.asset < length programme.assets → drop (s.mpu_place + 1) (all_mpus programme) ≡ mpus_from programme s.asset (s.mpu + 1)
mpus-behind programme s is l =
    let e = is.mpus ∙ mpus-next programme s.asset s.mpu (is.inside l).0 in
    let z : s.mpu_place + 1 ≡ suc s.mpu_place = omega arith in
    ap (λ i. drop i (all_mpus programme)) z ∙ (split-at (all_mpus programme) s.mpu_place _ _ no_placed_mpu e).2

pub next-mpu : (programme : Programme) → IsRight programme → (s : Spot) (n : ℕ) → IsSpot programme s → s.asset < length programme.assets → s.unit + n ≡ length (placed_at programme s).value.units
    → s.mpu + 1 < length (asset_at programme s.asset).mpus → IsSpot programme (first_of_mpu s.asset (s.mpu + 1) (s.mpu_place + 1) (s.unit_place + n))
next-mpu programme right s n is l e b =
    let m : IsFull programme = all-full programme right in
    record {
      left = left-further programme s n is (omega arith) ∙ (units-past programme (further s n) (omega arith) ∙ units-first programme s.asset (s.mpu + 1) (s.mpu_place + 1) (s.unit_place + n) b);
      mpus = mpus-behind programme s is l;
      inside = λ l. (b, m.units s.asset (s.mpu + 1) l b);
    }

pub next-asset : (programme : Programme) → IsRight programme → (s : Spot) (n : ℕ) → IsSpot programme s → s.asset < length programme.assets → s.unit + n ≡ length (placed_at programme s).value.units
    → length (asset_at programme s.asset).mpus ≤ s.mpu + 1 → IsSpot programme (first_of_mpu (s.asset + 1) 0 (s.mpu_place + 1) (s.unit_place + n))
next-asset programme right s n is l e b =
    let m : IsFull programme = all-full programme right in
    record {
      left = left-further programme s n is (omega arith) ∙ (units-past programme (further s n) (omega arith) ∙ (ap (flat_map_from units_of (s.mpu_place + 1)) (mpus-past programme s.asset (s.mpu + 1) b) ∙ units-next programme right (s.asset + 1) (s.mpu_place + 1) (s.unit_place + n)));
      mpus = mpus-behind programme s is l ∙ mpus-past programme s.asset (s.mpu + 1) b;
      inside = λ l. (m.mpus (s.asset + 1) l, m.units (s.asset + 1) 0 l (m.mpus (s.asset + 1) l));
    }

-- after the last asset there are no MPUs
pub mpus-over : (programme : Programme) (s : Spot) → IsSpot programme s → length programme.assets ≤ s.asset → drop s.mpu_place (all_mpus programme) ≡ []
unfolding mpus_from flat_map_from map_from
mpus-over programme s is ge =
    is.mpus
    ∙ (ap₂ (λ (x : Asset) (xs : List Asset). map_from (placed_in s.asset x) s.mpu (drop s.mpu x.mpus) ++ flat_map_from mpus_of (s.asset + 1) xs) (beyond programme.assets s.asset no_asset ge) (drop_all (s.asset + 1) programme.assets (omega arith))
    ∙ ap (λ ms. map_from (placed_in s.asset no_asset) s.mpu ms ++ []) (drop_all s.mpu [] (omega arith)))

-- ---- sizes

-- the MPU of a spot is the one at its place
pub mpu-here : (programme : Programme) (s : Spot) → IsSpot programme s → s.asset < length programme.assets → (s.mpu_place < length (all_mpus programme)) × (mpu_at programme s.mpu_place ≡ placed_at programme s)
mpu-here programme s is l =
    let u = unit-of programme s no_placed_unit.value is l in
    let p = placed-unit programme s.unit_place u.of in
    let place : (unit_at programme s.unit_place).mpu_place ≡ s.mpu_place = ap (λ (x : PlacedUnit). x.mpu_place) u.is in
    let in_mpu : (unit_at programme s.unit_place).in_mpu ≡ placed_at programme s = ap (λ (x : PlacedUnit). x.in_mpu) u.is in
    (omega (arith, p.0, place), ap (mpu_at programme) (sym place) ∙ (p.1 ∙ in_mpu))

-- what a spot has room for
pub record SpotFits (programme : Programme) (s : Spot) : Type 0 where
  pub room : s.unit_place + (length (placed_at programme s).value.units - s.unit) ≤ length (all_units programme)
  pub units : length (all_units programme) < 2 ^ 32
  pub own : length (placed_at programme s).value.units < 2 ^ 32
  pub mpu_place : s.mpu_place + 1 < 2 ^ 32
  pub mpu : length (asset_at programme s.asset).mpus < 2 ^ 32
  pub asset : s.asset + 1 < 2 ^ 32

pub spot-fits : (programme : Programme) → IsRight programme → (s : Spot) → IsSpot programme s → s.asset < length programme.assets → SpotFits programme s
unfolding units_from units_of all_mpus all_units mpus_of mpu_at
spot-fits programme right s is l =
    let t = ticks-fit programme right in
    let u = unit-of programme s no_placed_unit.value is l in
    let f : ℕ → PlannedUnit → PlacedUnit = unit_in s.mpu_place (placed_at programme s) in
    let units : List PlannedUnit = (placed_at programme s).value.units in
    let later : List PlacedUnit = flat_map_from units_of (s.mpu_place + 1) (mpus_from programme s.asset (s.mpu + 1)) in
    let known : s.mpu_place < length (all_mpus programme) = (mpu-here programme s is l).0 in
    let here : get_or (all_mpus programme) s.mpu_place no_placed_mpu ≡ placed_at programme s = (mpu-here programme s is l).1 in
    let own = flat-long units_of 0 (all_mpus programme) s.mpu_place no_placed_mpu known in
    let mpus = flat-long mpus_of 0 programme.assets s.asset no_asset l in
    record {
      room = omega (arith, u.of, (is.inside l).1, ap length is.left, length-drop s.unit_place (all_units programme), length-append (map_from f s.unit (drop s.unit units)) later, length-map_from f s.unit (drop s.unit units), length-drop s.unit units);
      units = t.few_units;
      own = omega (arith, t.few_units, own, length-map_from (unit_in (0 + s.mpu_place) (get_or (all_mpus programme) s.mpu_place no_placed_mpu)) 0 (get_or (all_mpus programme) s.mpu_place no_placed_mpu).value.units, ap (λ (x : PlacedMpu). length x.value.units) here);
      mpu_place = omega (arith, known, t.few_mpus);
      mpu = omega (arith, mpus, t.few_mpus, length-map_from (placed_in (0 + s.asset) (asset_at programme s.asset)) 0 (asset_at programme s.asset).mpus);
      asset = omega (arith, l, right.assets_few);
    }

-- ---- groups

fits-le : (h l at room : ℕ) (ys : List PlannedUnit) → fits h l at room ys ≤ length ys
unfolding fits
fits-le h l at room [] = omega arith
fits-le h l at room (y ∷ ys) = go (goes_in h l at room y) (fits-le h l at (room - (2 + h + y.length)) ys)
  where
    go : (t : Bool) → fits h l at (room - (2 + h + y.length)) ys ≤ length ys → cond t (suc (fits h l at (room - (2 + h + y.length)) ys)) 0 ≤ suc (length ys)
    go true ih = omega arith
    go false ih = omega arith

size-fits : (h l : ℕ) (x : PlannedUnit) (ys : List PlannedUnit) → (1 ≤ size_of h l (x ∷ ys)) × (size_of h l (x ∷ ys) ≤ suc (length ys))
unfolding size_of
size-fits h l x ys = go (nat_le x.length l)
  where
    go : (t : Bool) → (1 ≤ cond t (max 1 (fits h l x.at.0 l (x ∷ ys))) 1) × (cond t (max 1 (fits h l x.at.0 l (x ∷ ys))) 1 ≤ suc (length ys))
    go true = (omega arith, omega (arith, fits-le h l x.at.0 l (x ∷ ys)))
    go false = (omega arith, omega arith)

bytes-fit : (h l : ℕ) (x : PlannedUnit) (ys : List PlannedUnit) → bytes_of h l (x ∷ ys) ≤ l
unfolding bytes_of
bytes-fit h l x ys = go (nat_le x.length l)
  where
    go : (t : Bool) → cond t (l - room_left h l x.at.0 l (x ∷ ys)) 0 ≤ l
    go true = omega arith
    go false = omega arith

pub group-is : (programme : Programme) (s : Spot) (g : Group) (h : ℕ) → IsSpot programme s → s.asset < length programme.assets → h ≡ header_of (placed_at programme s)
    → g.size ≡ size_of h programme.limit (drop s.unit (placed_at programme s).value.units) → g.bytes ≡ bytes_of h programme.limit (drop s.unit (placed_at programme s).value.units) → IsGroup programme s g
unfolding size_at sending_at
group-is programme s g h is l eh es eb =
    let d : PlannedUnit = no_placed_unit.value in
    let m : ℕ = s.mpu_place in
    let placed : PlacedMpu = placed_at programme s in
    let units : List PlannedUnit = placed.value.units in
    let x : PlannedUnit = get_or units s.unit d in
    let ys : List PlannedUnit = drop (s.unit + 1) units in
    let later : List PlacedUnit = flat_map_from units_of (m + 1) (mpus_from programme s.asset (s.mpu + 1)) in
    let u = unit-of programme s d is l in
    let at = at_drop_more (λ (xs : List PlannedUnit). xs) units s.unit d (is.inside l).1 in
    let size : g.size ≡ size_of (header_of placed) programme.limit (x ∷ ys) = es ∙ ap₂ (λ k xs. size_of k programme.limit xs) eh at in
    let bytes : g.bytes ≡ bytes_of (header_of placed) programme.limit (x ∷ ys) = eb ∙ ap₂ (λ k xs. bytes_of k programme.limit xs) eh at in
    let group : group_size programme (unit_at programme s.unit_place) (drop (s.unit_place + 1) (all_units programme)) ≡ g.size =
    ap₂ (group_size programme) u.is u.rest ∙ (size-is programme m s.unit placed x ys later (new-later m (m + 1) (mpus_from programme s.asset (s.mpu + 1)) (omega arith)) ∙ sym size) in
    let fit = size-fits (header_of placed) programme.limit x ys in
    record {
      size = sym group;
      sending = ap (λ n. sending_of_units s.unit_place n (unit_at programme s.unit_place) (drop (s.unit_place + 1) (all_units programme))) group
          ∙ (ap₂ (sending_of_units s.unit_place g.size) u.is u.rest
          ∙ (sending-is programme s.unit_place g.size g.bytes m s.unit placed x ys later size bytes
          ∙ ap (λ y. cond (nat_lt 1 g.size) (Sending.Group s.unit_place g.size y g.bytes) (Sending.Alone s.unit_place y)) (sym u.is)));
      some = omega (arith, fit.0, size);
      within = omega (arith, fit.1, size, length-drop (s.unit + 1) units, (is.inside l).1);
      short = omega (arith, bytes, bytes-fit (header_of placed) programme.limit x ys);
    }

pub behind-spot : (programme : Programme) → IsRight programme → (s : Spot) (n k : ℕ) → IsSpot programme s → s.asset < length programme.assets → s.unit + n ≡ length (placed_at programme s).value.units
    → k ≡ length (asset_at programme s.asset).mpus → IsSpot programme (spot_behind s k (s.unit_place + n))
behind-spot programme right s n k is l e ek = go (nat_lt (s.mpu + 1) k) refl
  where
    go : (t : Bool) → nat_lt (s.mpu + 1) k ≡ t → IsSpot programme (cond t (record { asset = s.asset; mpu = s.mpu + 1; unit = 0; mpu_place = s.mpu_place + 1; unit_place = s.unit_place + n }) (record { asset = s.asset + 1; mpu = 0; unit = 0; mpu_place = s.mpu_place + 1; unit_place = s.unit_place + n }))
    go true b = next-mpu programme right s n is l e (omega (arith, ltb-true (s.mpu + 1) k b, ek))
    go false b = next-asset programme right s n is l e (omega (arith, ltb-false (s.mpu + 1) k b, ek))

-- a group ends within the units
pub group-end : (programme : Programme) → IsRight programme → (s : Spot) (g : Group) → IsSpot programme s → s.asset < length programme.assets → IsGroup programme s g → s.unit_place + g.size ≤ length (all_units programme)
group-end programme right s g is l group = omega (arith, (spot-fits programme right s is l).room, group.within, (is.inside l).1)
