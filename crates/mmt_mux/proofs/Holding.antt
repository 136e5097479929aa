-- Files that pass the check have the bytes of each unit.
use Rattle.std.proofs.Common.{◌≡◌, ℕ, ◌+◌, Bool, true, false, cond, List, [], ◌∷◌, length, take, drop, arith, Option, Some, None, Result, Ok, Err, refl}
use Rattle.std.specs.List.{AllByRecursion}
use Rattle.std.proofs.lemmas.Bool.{leb-true}
use Rattle.std.proofs.lemmas.List.{length-drop, length-take}
use Rattle.mmt_cast.proofs.Listing.{each-append, each-at}
use Rattle.mmt_cast.proofs.Placed.{placed_in}
use Rattle.mmt_cast.specs.Placing.{PlacedMpu, PlacedUnit, all_mpus, all_units, flat_map_from, map_from, mpus_of, units_of}
use Rattle.mmt_cast.specs.Right.{no_placed_unit, unit_at, unit_bytes}
use Rattle.mmt_model.specs.declared.programmes.Asset.{Asset}
use Rattle.mmt_model.specs.declared.programmes.Mpu.{Mpu}
use Rattle.mmt_model.specs.declared.programmes.Programme.{Programme}
use Rattle.mmt_model.specs.declared.programmes.Unit.{Unit as PlannedUnit}
use Rattle.mmt_plan.specs.Files.{check_asset, check_asset_at, check_mpu, check_unit, file_of, files_of, has_bytes, is_there}
use Rattle.mmt_plan.specs.Reading.{◌>>=◌}
use Rattle.mmt_plan.specs.Wholes.{each_checked}
use Rattle.mmt_plan.specs.declared.ends.Refusal.{Refusal}
use Rattle.mmt_plan.specs.declared.spots.Spot.{Spot}
use Rattle.mmt_send.specs.Files.{IsUnitShort, bytes_in, files_on}

-- ---- what passes a check, item by item

checked-each : {X : Type 0} (P : X → Type 0) (check : ℕ → X → Result (Unit {0}) Refusal) → ((i : ℕ) (x : X) → check i x ≡ Ok tt → P x) → (n : ℕ) (xs : List X) → each_checked check n xs ≡ Ok tt → AllByRecursion P xs
unfolding each_checked
checked-each P check step n [] e = tt
checked-each {X} P check step n (x ∷ xs) e = go (check n x) refl (checked-each P check step (n + 1) xs) e
  where
    go : (r : Result (Unit {0}) Refusal) → check n x ≡ r → (each_checked check (n + 1) xs ≡ Ok tt → AllByRecursion P xs) → (r >>= (λ _. each_checked check (n + 1) xs)) ≡ Ok tt → P x × AllByRecursion P xs
    go (Ok u) here ih later = (step n x here, ih later)
    go (Err why) here ih later = absurd cc

abbrev answer : Bool → Refusal → Result (Unit {0}) Refusal
answer b why = cond b (Ok tt) (Err why)

passes : (b : Bool) (why : Refusal) → answer b why ≡ Ok tt → b ≡ true
passes true why e = refl
passes false why e = absurd cc

-- a file has the bytes of a unit
abbrev pub IsHeldIn : Option (List ℕ) → PlannedUnit → Type 0
IsHeldIn file u = has_bytes file (u.from + u.length) ≡ true

unit-held : (file : Option (List ℕ)) (s : Spot) (n : ℕ) (u : PlannedUnit) → check_unit file s n u ≡ Ok tt → IsHeldIn file u
unfolding check_unit
unit-held file s n u e = passes (has_bytes file (u.from + u.length)) _ e

mpu-held : (file : Option (List ℕ)) (s : Spot) (n : ℕ) (m : Mpu) → check_mpu file s n m ≡ Ok tt → AllByRecursion (IsHeldIn file) m.units
unfolding check_mpu
mpu-held file s n m e = checked-each (IsHeldIn file) (check_unit file _) (unit-held file _) 0 m.units e

asset-held : (file : Option (List ℕ)) (s : Spot) (a : Asset) → check_asset_at file s a ≡ Ok tt → AllByRecursion (λ (m : Mpu). AllByRecursion (IsHeldIn file) m.units) a.mpus
unfolding check_asset_at is_there
asset-held None s a e = absurd cc
asset-held (Some bytes) s a e = checked-each (λ (m : Mpu). AllByRecursion (IsHeldIn (Some bytes)) m.units) (check_mpu (Some bytes) s) (mpu-held (Some bytes) s) 0 a.mpus e

-- the units of an asset are held
abbrev AssetHeld : (List ℕ → Option (List ℕ)) → List (List ℕ) → Asset → Type 0
AssetHeld file names a = AllByRecursion (λ (m : Mpu). AllByRecursion (IsHeldIn (file_of file names a)) m.units) a.mpus

assets-held : (file : List ℕ → Option (List ℕ)) (p : Programme) → files_of file p ≡ Ok tt → AllByRecursion (AssetHeld file p.files) p.assets
unfolding files_of
assets-held file p e = checked-each (AssetHeld file p.files) (check_asset file p.files) (λ n a h. asset-held (file_of file p.files a) _ a h) 0 p.assets e

-- ---- each unit of the programme

each-mapped : {X Y : Type 0} (P : X → Type 0) (Q : Y → Type 0) (f : ℕ → X → Y) → ((i : ℕ) (x : X) → P x → Q (f i x)) → (n : ℕ) (xs : List X) → AllByRecursion P xs → AllByRecursion Q (map_from f n xs)
unfolding map_from
each-mapped P Q f h n [] e = tt
each-mapped P Q f h n (x ∷ xs) e = (h n x e.0, each-mapped P Q f h (n + 1) xs e.1)

each-flat : {X Y : Type 0} (P : X → Type 0) (Q : Y → Type 0) (f : ℕ → X → List Y) → ((i : ℕ) (x : X) → P x → AllByRecursion Q (f i x)) → (n : ℕ) (xs : List X) → AllByRecursion P xs → AllByRecursion Q (flat_map_from f n xs)
unfolding flat_map_from
each-flat P Q f h n [] e = tt
each-flat P Q f h n (x ∷ xs) e = each-append Q (f n x) (flat_map_from f (n + 1) xs) (h n x e.0) (each-flat P Q f h (n + 1) xs e.1)

abbrev MpuHeld : (List ℕ → Option (List ℕ)) → List (List ℕ) → PlacedMpu → Type 0
MpuHeld file names m = AllByRecursion (IsHeldIn (file_of file names m.in_asset)) m.value.units

abbrev pub UnitHeld : (List ℕ → Option (List ℕ)) → List (List ℕ) → PlacedUnit → Type 0
UnitHeld file names x = IsHeldIn (file_of file names x.in_mpu.in_asset) x.value

mpus-in : (file : List ℕ → Option (List ℕ)) (names : List (List ℕ)) (a : ℕ) (asset : Asset) → AssetHeld file names asset → AllByRecursion (MpuHeld file names) (mpus_of a asset)
unfolding mpus_of
mpus-in file names a asset h = each-mapped (λ (m : Mpu). AllByRecursion (IsHeldIn (file_of file names asset)) m.units) (MpuHeld file names) (placed_in a asset) (λ b mpu m. m) 0 asset.mpus h

units-in : (file : List ℕ → Option (List ℕ)) (names : List (List ℕ)) (m : ℕ) (x : PlacedMpu) → MpuHeld file names x → AllByRecursion (UnitHeld file names) (units_of m x)
unfolding units_of
units-in file names m x h = each-mapped (IsHeldIn (file_of file names x.in_asset)) (UnitHeld file names) (λ c unit. record { mpu_place = m; in_mpu = x; unit = c; value = unit }) (λ c unit u. u) 0 x.value.units h

pub units-held : (file : List ℕ → Option (List ℕ)) (p : Programme) → files_of file p ≡ Ok tt → AllByRecursion (UnitHeld file p.files) (all_units p)
unfolding all_units all_mpus
units-held file p e =
    each-flat (MpuHeld file p.files) (UnitHeld file p.files) units_of (units-in file p.files) 0 (all_mpus p)
    (each-flat (AssetHeld file p.files) (MpuHeld file p.files) mpus_of (mpus-in file p.files) 0 p.assets (assets-held file p e))

all-there : (file : Option (List ℕ)) (from size : ℕ) → has_bytes file (from + size) ≡ true → length (take size (drop from (bytes_in file))) ≡ size
all-there None from size e = absurd cc
all-there (Some bytes) from size e = omega (arith, leb-true (from + size) (length bytes) e, length-take size (drop from bytes), length-drop from bytes)

-- so no unit is short
pub never_short : (file : List ℕ → Option (List ℕ)) (p : Programme) (unit size held : ℕ) → files_of file p ≡ Ok tt → IsUnitShort p (files_on file p) unit size held → ⊥
unfolding unit_at unit_bytes
never_short file p unit size held e short =
    let x : PlacedUnit = unit_at p unit in
    let has = each-at (UnitHeld file p.files) (all_units p) unit no_placed_unit (units-held file p e) short.known in
    let whole = all-there (file_of file p.files x.in_mpu.in_asset) x.value.from x.value.length has in
    omega (arith, short.short, short.len, short.got, whole)
