-- A unit of a programme stands at its places: those of its asset, its MPU and itself, which the cast tells.
use Rattle.std.proofs.Common.{◌≡◌, ℕ, ◌+◌, ◌<◌, List, [], length, get_or, arith, sym, ap, subst, ◌∙◌}
use Rattle.std.proofs.lemmas.List.{get_or_default, get_or_read}
use Rattle.mmt_cast.specs.Casting.{unit_as_sent}
use Rattle.mmt_cast.specs.Placing.{PlacedUnit, all_mpus, all_units, units_of}
use Rattle.mmt_cast.specs.Right.{mpu_at, no_mpu, no_placed_mpu, unit_at}
use Rattle.mmt_cast.specs.FromRight.{FitsUnit}
use Rattle.mmt_cast.proofs.FromRight.{right-programmes-fit}
use Rattle.mmt_cast.proofs.Listing.{each-at}
use Rattle.mmt_cast.proofs.Placed.{IsPlaced, each-flat_map_from, each-map_from_at, placed}
use Rattle.mmt_cast.proofs.Reading.{length-units, placed-unit, unit-sent}
use Rattle.mmt_model.specs.Carrying.{no_sent_unit, sent_unit}
use Rattle.mmt_model.specs.Right.{IsRight, no_asset}
use Rattle.mmt_model.specs.declared.casts.Cast.{Cast}
use Rattle.mmt_model.specs.declared.casts.SentUnit.{SentUnit}
use Rattle.mmt_model.specs.declared.keys.UnitKey.TheVariants as keys
use Rattle.mmt_model.specs.declared.programmes.Asset.{Asset}
use Rattle.mmt_model.specs.declared.programmes.Mpu.{Mpu}
use Rattle.mmt_model.specs.declared.programmes.Programme.{Programme}
use Rattle.mmt_model.specs.declared.programmes.Unit as model
use Rattle.mmt_pace.proofs.Alike.{IsUnitAs, alike}
use Rattle.mmt_pace.specs.Recast.{IsItsCast}

-- a unit, for places outside an MPU
abbrev pub no_unit : model.Unit
no_unit = record { at = record { 0 = 0 }; from = 0; length = 0; key = keys.Timed 0 0 0; priority = 0; dependency = 0 }

-- a unit is that of its place in its MPU
abbrev IsOwn : PlacedUnit → Type 0
IsOwn x = (x.unit < length x.in_mpu.value.units) × (get_or x.in_mpu.value.units x.unit no_unit ≡ x.value)

own : (programme : Programme) (u : ℕ) → u < length (all_units programme) → IsOwn (unit_at programme u)
unfolding all_units units_of unit_at
own programme u l =
    each-at IsOwn (all_units programme) u _
    (each-flat_map_from IsOwn units_of 0 (all_mpus programme) no_placed_mpu
    (λ m lm. each-map_from_at IsOwn (λ c unit. record { mpu_place = 0 + m; in_mpu = get_or (all_mpus programme) m no_placed_mpu; unit = c; value = unit }) 0 (get_or (all_mpus programme) m no_placed_mpu).value.units no_unit
    (λ i li. (omega arith, (let z : 0 + i ≡ i = omega arith in ap (λ k. get_or (get_or (all_mpus programme) m no_placed_mpu).value.units k no_unit) z)))))
    l

-- an MPU of a unit is that of its places
its-mpu : (programme : Programme) (u : ℕ) → u < length (all_units programme) → IsPlaced programme (unit_at programme u).in_mpu
unfolding mpu_at
its-mpu programme u l =
    let at = placed-unit programme u l in
    subst (IsPlaced programme) at.1 (each-at (IsPlaced programme) (all_mpus programme) (unit_at programme u).mpu_place no_placed_mpu (placed programme) at.0)

-- the cast tells the places of a unit
pub record IsTold (programme : Programme) (cast : Cast) (u : ℕ) : Type 0 where
  pub listed : u < length cast.units
  pub sent : (sent : List SentUnit) (d : SentUnit) → sent ≡ cast.units → IsUnitAs (get_or sent u d) (unit_as_sent programme u (unit_at programme u))

pub told : (programme : Programme) (cast : Cast) (u : ℕ) → IsItsCast programme cast → u < length (all_units programme) → IsTold programme cast u
unfolding sent_unit
told programme cast u is l =
    let listed : u < length cast.units = omega (arith, l, length-units programme, (alike programme cast is).units) in
    record {
      listed = listed;
      sent = λ sent d e.
          subst (λ (s : SentUnit). IsUnitAs s (unit_as_sent programme u (unit_at programme u))) (sym (get_or_default sent u d no_sent_unit (subst (λ (xs : List SentUnit). u < length xs) (sym e) listed) ∙ ap (λ (xs : List SentUnit). get_or xs u no_sent_unit) e))
          (subst (IsUnitAs (get_or cast.units u no_sent_unit)) (unit-sent programme u l) ((alike programme cast is).unit u));
    }

-- where a unit stands
pub record Stands (programme : Programme) (x : PlacedUnit) : Type 0 where
  pub asset : x.in_mpu.asset < length programme.assets
  pub in_asset : (r : Asset) → r ≡ get_or programme.assets x.in_mpu.asset r → r ≡ x.in_mpu.in_asset
  pub mpu : x.in_mpu.mpu < length x.in_mpu.in_asset.mpus
  pub in_mpu : (r : Mpu) → r ≡ get_or x.in_mpu.in_asset.mpus x.in_mpu.mpu r → r ≡ x.in_mpu.value
  pub unit : x.unit < length x.in_mpu.value.units
  pub in_unit : (d : model.Unit) → get_or x.in_mpu.value.units x.unit d ≡ x.value
  pub file : x.in_mpu.in_asset.file < length programme.files

pub stands : (programme : Programme) (u : ℕ) → IsRight programme → u < length (all_units programme) → Stands programme (unit_at programme u)
stands programme u right l =
    let m = its-mpu programme u l in
    let o = own programme u l in
    let x : PlacedUnit = unit_at programme u in
    let fits : FitsUnit programme x = right-programmes-fit.units programme right u l in
    record {
      asset = m.0;
      in_asset = λ r e. get_or_read programme.assets x.in_mpu.asset r m.0 e no_asset ∙ m.1;
      mpu = m.2;
      in_mpu = λ r e. get_or_read x.in_mpu.in_asset.mpus x.in_mpu.mpu r m.2 e no_mpu ∙ m.3;
      unit = o.0;
      in_unit = λ d. get_or_default x.in_mpu.value.units x.unit d no_unit o.0 ∙ o.1;
      file = fits.file;
    }

-- ---- what a look-up finds

module _ (programme : Programme) (cast : Cast) (u : ℕ) (right : IsRight programme) (is : IsItsCast programme cast) (l : u < length (all_units programme)) (sents : List SentUnit) (e : sents ≡ cast.units) (d : SentUnit) where
  found : IsUnitAs (get_or sents u d) (unit_as_sent programme u (unit_at programme u))
  found = (told programme cast u is l).sent sents d e

  asset-place : (get_or sents u d).asset ≡ (unit_at programme u).in_mpu.asset
  unfolding unit_as_sent
  asset-place = found.asset

  mpu-place : (get_or sents u d).mpu ≡ (unit_at programme u).in_mpu.mpu
  unfolding unit_as_sent
  mpu-place = found.mpu

  unit-place : (get_or sents u d).unit ≡ (unit_at programme u).unit
  unfolding unit_as_sent
  unit-place = found.unit

  at : Stands programme (unit_at programme u)
  at = stands programme u right l

  pub listed : u < length sents
  listed = subst (λ (xs : List SentUnit). u < length xs) (sym e) (told programme cast u is l).listed

  pub asset-fits : (assets : List Asset) → assets ≡ programme.assets → (get_or sents u d).asset < length assets
  asset-fits assets f = omega (arith, asset-place, at.asset, ap (λ (xs : List Asset). length xs) f)

  pub asset-is : (assets : List Asset) (r : Asset) → assets ≡ programme.assets → r ≡ get_or assets (get_or sents u d).asset r → r ≡ (unit_at programme u).in_mpu.in_asset
  asset-is assets r f same = at.in_asset r (same ∙ ap (λ (xs : List Asset). get_or xs (get_or sents u d).asset r) f ∙ ap (λ (i : ℕ). get_or programme.assets i r) asset-place)

  pub mpu-fits : (r : Asset) (mpus : List Mpu) → r ≡ (unit_at programme u).in_mpu.in_asset → mpus ≡ r.mpus → (get_or sents u d).mpu < length mpus
  mpu-fits r mpus a f = omega (arith, mpu-place, at.mpu, ap (λ (xs : List Mpu). length xs) f, ap (λ (x : Asset). length x.mpus) a)

  pub mpu-is : (r : Asset) (mpus : List Mpu) (m : Mpu) → r ≡ (unit_at programme u).in_mpu.in_asset → mpus ≡ r.mpus → m ≡ get_or mpus (get_or sents u d).mpu m → m ≡ (unit_at programme u).in_mpu.value
  mpu-is r mpus m a f same = at.in_mpu m (same ∙ ap (λ (xs : List Mpu). get_or xs (get_or sents u d).mpu m) (f ∙ ap (λ (x : Asset). x.mpus) a) ∙ ap (λ (i : ℕ). get_or (unit_at programme u).in_mpu.in_asset.mpus i m) mpu-place)

  pub unit-fits : (m : Mpu) (units : List model.Unit) → m ≡ (unit_at programme u).in_mpu.value → units ≡ m.units → (get_or sents u d).unit < length units
  unit-fits m units a f = omega (arith, unit-place, at.unit, ap (λ (xs : List model.Unit). length xs) f, ap (λ (x : Mpu). length x.units) a)

  pub unit-is : (m : Mpu) (units : List model.Unit) (c : model.Unit) → m ≡ (unit_at programme u).in_mpu.value → units ≡ m.units → get_or units (get_or sents u d).unit c ≡ (unit_at programme u).value
  unit-is m units c a f = ap (λ (xs : List model.Unit). get_or xs (get_or sents u d).unit c) (f ∙ ap (λ (x : Mpu). x.units) a) ∙ ap (λ (i : ℕ). get_or (unit_at programme u).in_mpu.value.units i c) unit-place ∙ at.in_unit c

  pub file-fits : (r : Asset) (files : List (List ℕ)) → r ≡ (unit_at programme u).in_mpu.in_asset → files ≡ programme.files → r.file < length files
  file-fits r files a f = omega (arith, at.file, ap (λ (xs : List (List ℕ)). length xs) f, ap (λ (x : Asset). x.file) a)

  pub name-is : (r : Asset) (files : List (List ℕ)) (n name : List ℕ) → r ≡ (unit_at programme u).in_mpu.in_asset → files ≡ programme.files → n ≡ get_or files r.file n → name ≡ n → name ≡ get_or programme.files (unit_at programme u).in_mpu.in_asset.file []
  name-is r files n name a f same g =
      g ∙ get_or_read files r.file n (file-fits r files a f) same [] ∙ ap (λ (xs : List (List ℕ)). get_or xs r.file []) f ∙ ap (λ (x : Asset). get_or programme.files x.file []) a
