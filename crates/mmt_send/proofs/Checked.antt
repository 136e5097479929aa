-- Where the files of a programme were found to be long enough, no unit is short.
use Rattle.std.proofs.Common.{◌≡◌, ℕ, zero, suc, ◌+◌, ◌<◌, ◌≤◌, Bool, true, false, cond, List, [], ◌∷◌, length, drop, get_or, Option, Some, None, Result, Ok, Err, arith, refl, subst}
use Rattle.std.proofs.lemmas.Bool.{leb-true}
use Rattle.std.proofs.lemmas.List.{get_or_default, length-drop, length-take}
use Rattle.mmt_cast.specs.Placing.{PlacedUnit, all_units}
use Rattle.mmt_cast.specs.Right.{no_mpu, unit_at, unit_bytes}
use Rattle.mmt_model.specs.Right.{IsRight, no_asset}
use Rattle.mmt_model.specs.declared.programmes.Asset.{Asset}
use Rattle.mmt_model.specs.declared.programmes.Mpu.{Mpu}
use Rattle.mmt_model.specs.declared.programmes.Programme.{Programme}
use Rattle.mmt_model.specs.declared.programmes.Unit as model
use Rattle.mmt_plan.specs.Files.{check_asset, check_asset_at, check_mpu, check_unit, file_of, files_of, has_bytes, is_there}
use Rattle.mmt_plan.specs.Reading.{◌>>=◌}
use Rattle.mmt_plan.specs.Wholes.{each_checked}
use Rattle.mmt_plan.specs.declared.ends.Refusal.{Refusal}
use Rattle.mmt_plan.specs.declared.spots.Spot.{Spot}
use Rattle.mmt_send.specs.Files.{bytes_in, files_on}
use Rattle.mmt_send.specs.Laws.{CheckedFilesAreWhole}
use Rattle.mmt_send.proofs.Standing.{Stands, no_unit, stands}

-- two checks, both passed
first-passed : (r : Result (Unit {0}) Refusal) (f : Unit {0} → Result (Unit {0}) Refusal) → (r >>= f) ≡ Ok tt → r ≡ Ok tt
first-passed (Ok x) f e = refl
first-passed (Err x) f e = cc

rest-passed : (r : Result (Unit {0}) Refusal) (f : Unit {0} → Result (Unit {0}) Refusal) → (r >>= f) ≡ Ok tt → f tt ≡ Ok tt
rest-passed (Ok x) f e = e
rest-passed (Err x) f e = cc

-- each item passed
each-passed : {A : Type 0} (check : ℕ → A → Result (Unit {0}) Refusal) (n i : ℕ) (xs : List A) (d : A) → each_checked check n xs ≡ Ok tt → i < length xs → (k : ℕ) × (check k (get_or xs i d) ≡ Ok tt)
unfolding each_checked
each-passed check n i [] d e l = absurd (omega arith)
each-passed check n zero (x ∷ xs) d e l = (n, first-passed (check n x) (λ _. each_checked check (n + 1) xs) e)
each-passed check n (suc i) (x ∷ xs) d e l = each-passed check (n + 1) i xs d (rest-passed (check n x) (λ _. each_checked check (n + 1) xs) e) (omega arith)

passed : (b : Bool) (r : Refusal) → cond {A = Result (Unit {0}) Refusal} b (Ok tt) (Err r) ≡ Ok tt → b ≡ true
passed true r e = refl
passed false r e = cc

unit-passed : (file : Option (List ℕ)) (s : Spot) (n : ℕ) (u : model.Unit) → check_unit file s n u ≡ Ok tt → has_bytes file (u.from + u.length) ≡ true
unfolding check_unit
unit-passed file s n u e = passed (has_bytes file (u.from + u.length)) _ e

enough : (file : Option (List ℕ)) (end : ℕ) → has_bytes file end ≡ true → end ≤ length (bytes_in file)
enough None end e = cc
enough (Some bytes) end e = leb-true end (length bytes) e

mpu-passed : (file : Option (List ℕ)) (s : Spot) (n : ℕ) (m : Mpu) → check_mpu file s n m ≡ Ok tt → (i : ℕ) (d : model.Unit) → i < length m.units → has_bytes file ((get_or m.units i d).from + (get_or m.units i d).length) ≡ true
unfolding check_mpu
mpu-passed file s n m e i d l = let p = each-passed (check_unit file _) 0 i m.units d e l in unit-passed file _ p.0 (get_or m.units i d) p.1

asset-passed : (file : Option (List ℕ)) (s : Spot) (a : Asset) → check_asset_at file s a ≡ Ok tt → (i j : ℕ) (m : Mpu) (u : model.Unit) → i < length a.mpus → get_or a.mpus i no_mpu ≡ m → j < length m.units → get_or m.units j no_unit ≡ u
    → has_bytes file (u.from + u.length) ≡ true
unfolding check_asset_at
asset-passed file s a e i j m u l is k same =
    let p = each-passed (check_mpu file s) 0 i a.mpus no_mpu (rest-passed (is_there s file) (λ _. each_checked (check_mpu file s) 0 a.mpus) e) l in
    let whole : check_mpu file s p.0 m ≡ Ok tt = subst (λ (v : Mpu). check_mpu file s p.0 v ≡ Ok tt) is p.1 in
    subst (λ (v : model.Unit). has_bytes file (v.from + v.length) ≡ true) same (mpu-passed file s p.0 m whole j no_unit k)

-- a unit ends in its file
ends-in : (programme : Programme) (file : List ℕ → Option (List ℕ)) → IsRight programme → files_of file programme ≡ Ok tt → (u : ℕ) → u < length (all_units programme)
    → (unit_at programme u).value.from + (unit_at programme u).value.length ≤ length (files_on file programme (unit_at programme u).in_mpu.in_asset.file)
unfolding files_of
ends-in programme file right e u l =
    let x : PlacedUnit = unit_at programme u in
    let s : Stands programme x = stands programme u right l in
    let here : Option (List ℕ) = file_of file programme.files x.in_mpu.in_asset in
    let asset : Asset = get_or programme.assets x.in_mpu.asset no_asset in
    let in_asset : asset ≡ x.in_mpu.in_asset = s.in_asset asset (get_or_default programme.assets x.in_mpu.asset no_asset asset s.asset) in
    let p = each-passed (check_asset file programme.files) 0 x.in_mpu.asset programme.assets no_asset e s.asset in
    let checked : check_asset file programme.files p.0 x.in_mpu.in_asset ≡ Ok tt = subst (λ (a : Asset). check_asset file programme.files p.0 a ≡ Ok tt) in_asset p.1 in
    let mpu : Mpu = get_or x.in_mpu.in_asset.mpus x.in_mpu.mpu no_mpu in
    let in_mpu : mpu ≡ x.in_mpu.value = s.in_mpu mpu (get_or_default x.in_mpu.in_asset.mpus x.in_mpu.mpu no_mpu mpu s.mpu) in
    enough here (x.value.from + x.value.length) (asset-passed here _ x.in_mpu.in_asset checked x.in_mpu.mpu x.unit x.in_mpu.value x.value s.mpu in_mpu s.unit (s.in_unit no_unit))

pub checked-files : CheckedFilesAreWhole
unfolding unit_bytes
checked-files programme file right e u size held short =
    let x : PlacedUnit = unit_at programme u in
    let bytes : List ℕ = files_on file programme x.in_mpu.in_asset.file in
    omega (arith, ends-in programme file right e u short.known, length-take x.value.length (drop x.value.from bytes), length-drop x.value.from bytes, short.len, short.got, short.short)
