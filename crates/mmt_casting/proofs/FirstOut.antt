-- The first access unit whose time is out of range, found by walking over MPUs.
use Rattle.std.proofs.Common.{◌≡◌, ℕ, ◌+◌, ◌<◌, ◌≤◌, suc, zero, true, false, List, [], ◌∷◌, ◌++◌, map, length, get_or, drop, arith, refl, ap, sym, ◌∙◌, Option, Some, None, option_map, is_some, true≢false}
use Rattle.std.proofs.lemmas.List.{at_drop_more, drop_all}
use Rattle.std.specs.List.{AllByRecursion}
use Rattle.mmt_base.specs.declared.ticks.Ntp.{Ntp}
use Rattle.mmt_casting.specs.Ends.{end_of}
use Rattle.mmt_casting.specs.declared.ends.CastEnd.{CastEnd}
use Rattle.mmt_casting.specs.declared.ends.CastEnd.TheVariants as ends
use Rattle.mmt_cast.specs.Placing.{PlacedMpu, all_mpus, flat_map_from, map_from, mpus_of}
use Rattle.mmt_cast.specs.Refusing.{Refusal, first_of, of_au, out_of_range, refusal_of_mpu, refusal_of_mpus}
use Rattle.mmt_model.specs.declared.programmes.Asset.{Asset}
use Rattle.mmt_model.specs.declared.programmes.Au.{Au}
use Rattle.mmt_model.specs.declared.programmes.Mpu.{Mpu}
use Rattle.mmt_model.specs.declared.programmes.Programme.{Programme}
use Rattle.mmt_times.specs.Times.{time_at, unit_times}
use Rattle.mmt_times.specs.TimesLeft.{view_time}
use Rattle.mmt_times.specs.Writing.{au_value}

-- what holds of each item holds of the one at a place
pub all-at : {X : Type 0} (P : X → Type 0) (xs : List X) (i : ℕ) (d : X) → i < length xs → AllByRecursion P xs → P (get_or xs i d)
all-at P [] i d l all = absurd (omega arith)
all-at P (x ∷ xs) zero d l all = all.0
all-at P (x ∷ xs) (suc i) d l all = all-at P xs i d (omega arith) all.1

-- the first time that is out of range, of the access units from one on
abbrev pub out_from : ℕ → ℕ → ℕ → ℕ → ℕ → List Au → Option ℕ
out_from time offset scale i before aus = out_of_range i (unit_times time offset scale 0 before (map au_value (drop i aus)))

pub range-out : (time offset scale before i : ℕ) (aus : List Au) (d : Au) (o : Option Ntp) → i < length aus → option_map view_time o ≡ time_at time offset before (get_or aus i d).dts_pts scale
    → is_some o ≡ false → out_from time offset scale i before aus ≡ Some i
unfolding out_of_range unit_times
range-out time offset scale before i aus d None l e none =
    at_drop_more (λ xs. out_of_range i (unit_times time offset scale 0 before (map au_value xs))) aus i d l
    ∙ ap (λ x. out_of_range i (x ∷ unit_times time offset scale 0 (before + (get_or aus i d).pts) (map au_value (drop (i + 1) aus)))) (sym e)
range-out time offset scale before i aus d (Some t) l e none = absurd (true≢false none)

pub range-in : (time offset scale before i : ℕ) (aus : List Au) (d : Au) (o : Option Ntp) → i < length aus → option_map view_time o ≡ time_at time offset before (get_or aus i d).dts_pts scale
    → is_some o ≡ true → out_from time offset scale i before aus ≡ out_from time offset scale (i + 1) (before + (get_or aus i d).pts) aus
unfolding out_of_range unit_times
range-in time offset scale before i aus d None l e some = absurd (true≢false (sym some))
range-in time offset scale before i aus d (Some t) l e some =
    at_drop_more (λ xs. out_of_range i (unit_times time offset scale 0 before (map au_value xs))) aus i d l
    ∙ ap (λ x. out_of_range i (x ∷ unit_times time offset scale 0 (before + (get_or aus i d).pts) (map au_value (drop (i + 1) aus)))) (sym e)

-- an MPU of an asset
abbrev pub placed_in : ℕ → Asset → ℕ → Mpu → PlacedMpu
placed_in a asset b mpu = record { asset = a; mpu = b; in_asset = asset; value = mpu }

-- the first refusal of an asset's MPUs from one on
abbrev pub refusal_from : ℕ → Asset → ℕ → Option Refusal
refusal_from a asset b = refusal_of_mpus (map_from (placed_in a asset) b (drop b asset.mpus))

pub from-first : (a : ℕ) (asset : Asset) → refusal_of_mpus (mpus_of a asset) ≡ refusal_from a asset 0
unfolding mpus_of
from-first a asset = refl

pub from-next : (a : ℕ) (asset : Asset) (b : ℕ) (d : Mpu) (o : Option ℕ) → b < length asset.mpus
    → o ≡ out_of_range 0 (unit_times (get_or asset.mpus b d).time.0 (get_or asset.mpus b d).decoding_offset asset.timescale 0 0 (map au_value (get_or asset.mpus b d).aus))
    → refusal_from a asset b ≡ first_of (of_au (placed_in a asset b (get_or asset.mpus b d)) o) (refusal_from a asset (b + 1))
unfolding refusal_of_mpus refusal_of_mpu map_from
from-next a asset b d o l e =
    at_drop_more (λ xs. refusal_of_mpus (map_from (placed_in a asset) b xs)) asset.mpus b d l
    ∙ ap (λ x. first_of (of_au (placed_in a asset b (get_or asset.mpus b d)) x) (refusal_from a asset (b + 1))) (sym e)

-- the first refusal of two lists of MPUs
pub refusal-both : (xs ys : List PlacedMpu) → refusal_of_mpus (xs ++ ys) ≡ first_of (refusal_of_mpus xs) (refusal_of_mpus ys)
unfolding refusal_of_mpus
refusal-both [] ys = refl
refusal-both (x ∷ xs) ys = ap (first_of (refusal_of_mpu x)) (refusal-both xs ys) ∙ first-three (refusal_of_mpu x) (refusal_of_mpus xs) (refusal_of_mpus ys)
  where
    first-three : (p q r : Option Refusal) → first_of p (first_of q r) ≡ first_of (first_of p q) r
    first-three None q r = refl
    first-three (Some x) q r = refl

-- the first refusal of the MPUs of the assets from one on
abbrev pub refusal_of_assets : ℕ → List Asset → Option Refusal
refusal_of_assets a assets = refusal_of_mpus (flat_map_from mpus_of a (drop a assets))

pub assets-next : (a : ℕ) (assets : List Asset) (d : Asset) → a < length assets
    → refusal_of_assets a assets ≡ first_of (refusal_of_mpus (mpus_of a (get_or assets a d))) (refusal_of_assets (a + 1) assets)
unfolding flat_map_from
assets-next a assets d l =
    at_drop_more (λ xs. refusal_of_mpus (flat_map_from mpus_of a xs)) assets a d l
    ∙ refusal-both (mpus_of a (get_or assets a d)) (flat_map_from mpus_of (a + 1) (drop (a + 1) assets))

pub range-past : (time offset scale before i : ℕ) (aus : List Au) → length aus ≤ i → out_from time offset scale i before aus ≡ None
unfolding out_of_range unit_times
range-past time offset scale before i aus l = ap (λ xs. out_of_range i (unit_times time offset scale 0 before (map au_value xs))) (drop_all i aus l)

pub from-past : (a : ℕ) (asset : Asset) (b : ℕ) → length asset.mpus ≤ b → refusal_from a asset b ≡ None
unfolding refusal_of_mpus map_from
from-past a asset b l = ap (λ xs. refusal_of_mpus (map_from (placed_in a asset) b xs)) (drop_all b asset.mpus l)

pub assets-past : (a : ℕ) (assets : List Asset) → length assets ≤ a → refusal_of_assets a assets ≡ None
unfolding refusal_of_mpus flat_map_from
assets-past a assets l = ap (λ xs. refusal_of_mpus (flat_map_from mpus_of a xs)) (drop_all a assets l)

-- of an asset's MPU at a place with the place of its first access unit out of range
abbrev pub IsOut : Asset → Mpu → Option ℕ → Type 0
IsOut asset m o = o ≡ out_of_range 0 (unit_times m.time.0 m.decoding_offset asset.timescale 0 0 (map au_value m.aus))

at-place : (a : ℕ) (asset : Asset) (mpus : List Mpu) (b : ℕ) (m : Mpu) (o : Option ℕ) → mpus ≡ asset.mpus → b < length mpus → m ≡ get_or mpus b m → IsOut asset m o
    → refusal_from a asset b ≡ first_of (of_au (placed_in a asset b m) o) (refusal_from a asset (b + 1))
at-place a asset mpus b m o same l is out =
    let is' : m ≡ get_or asset.mpus b m = is ∙ ap (λ xs. get_or xs b m) same in
    from-next a asset b m o (omega (arith, ap (λ (xs : List Mpu). length xs) same, l)) (out ∙ ap (λ (x : Mpu). out_of_range 0 (unit_times x.time.0 x.decoding_offset asset.timescale 0 0 (map au_value x.aus))) is')
    ∙ ap (λ x. first_of (of_au (placed_in a asset b x) o) (refusal_from a asset (b + 1))) (sym is')

pub asset-found : (a : ℕ) (asset : Asset) (mpus : List Mpu) (b au : ℕ) (m : Mpu) → mpus ≡ asset.mpus → b < length mpus → m ≡ get_or mpus b m → IsOut asset m (Some au)
    → refusal_of_mpus (mpus_of a asset) ≡ refusal_from a asset b → Some (ends.TimeRange a b au) ≡ option_map end_of (refusal_of_mpus (mpus_of a asset))
unfolding end_of
asset-found a asset mpus b au m same l is out inv = sym (ap (option_map end_of) (inv ∙ at-place a asset mpus b m (Some au) same l is out))

pub asset-passed : (a : ℕ) (asset : Asset) (mpus : List Mpu) (b : ℕ) (m : Mpu) → mpus ≡ asset.mpus → b < length mpus → m ≡ get_or mpus b m → IsOut asset m None
    → refusal_of_mpus (mpus_of a asset) ≡ refusal_from a asset b → refusal_of_mpus (mpus_of a asset) ≡ refusal_from a asset (b + 1)
asset-passed a asset mpus b m same l is out inv = inv ∙ at-place a asset mpus b m None same l is out

pub asset-ends : (a : ℕ) (asset : Asset) (mpus : List Mpu) (b : ℕ) → mpus ≡ asset.mpus → length mpus ≤ b
    → refusal_of_mpus (mpus_of a asset) ≡ refusal_from a asset b → None ≡ option_map end_of (refusal_of_mpus (mpus_of a asset))
asset-ends a asset mpus b same l inv = sym (ap (option_map end_of) (inv ∙ from-past a asset b (omega (arith, ap (λ (xs : List Mpu). length xs) same, l))))

-- a walk goes on past what has no refusal, and ends with the first one
pub ends-found : (all r rest : Option Refusal) (o : Option CastEnd) → o ≡ option_map end_of r → true ≡ is_some o → all ≡ first_of r rest → o ≡ option_map end_of all
ends-found all None rest o is some e = absurd (true≢false (some ∙ ap is_some is))
ends-found all (Some r) rest o is some e = is ∙ sym (ap (option_map end_of) e)

pub ends-passed : (all r rest : Option Refusal) (o : Option CastEnd) → o ≡ option_map end_of r → false ≡ is_some o → all ≡ first_of r rest → all ≡ rest
ends-passed all None rest o is none e = e
ends-passed all (Some r) rest o is none e = absurd (true≢false (sym (ap is_some is) ∙ sym none))

pub ends-none : (all : Option Refusal) → all ≡ None → None ≡ option_map end_of all
ends-none all e = sym (ap (option_map end_of) e)

pub assets-first : (programme : Programme) (assets : List Asset) → assets ≡ programme.assets → refusal_of_mpus (all_mpus programme) ≡ refusal_of_assets 0 assets
unfolding all_mpus
assets-first programme assets same = ap (λ xs. refusal_of_assets 0 xs) (sym same)

pub assets-at : (a : ℕ) (assets : List Asset) (x : Asset) → a < length assets → x ≡ get_or assets a x → refusal_of_assets a assets ≡ first_of (refusal_of_mpus (mpus_of a x)) (refusal_of_assets (a + 1) assets)
assets-at a assets x l is = assets-next a assets x l ∙ ap (λ y. first_of (refusal_of_mpus (mpus_of a y)) (refusal_of_assets (a + 1) assets)) (sym is)
