-- The time of a unit of a programme.
use Rattle.std.proofs.Common.{◌≡◌, ℕ, ◌<◌, ◌≤◌, List, [], ◌∷◌, length, get_or, refl, ap, ap₂, sym, ◌∙◌, Option, Some, None}
use Rattle.std.specs.List.{AllByRecursion}
use Rattle.mmt_base.specs.declared.ticks.Ntp.{Ntp}
use Rattle.mmt_cast.proofs.Listing.{each-at}
use Rattle.mmt_base.specs.Ticks.{due_of}
use Rattle.mmt_base.specs.declared.ticks.LongTick.{LongTick}
use Rattle.mmt_cast.specs.Casting.{due_of_placed, time_of_unit}
use Rattle.mmt_cast.specs.Placing.{PlacedMpu, PlacedUnit, all_mpus, entry_of_mpu}
use Rattle.mmt_cast.specs.Refusing.{of_au, out_of_range, refusal_of_mpu, refusal_of_mpus}
use Rattle.mmt_cast.specs.Right.{mpu_at, no_mpu, no_placed_mpu, no_placed_unit, unit_at}
use Rattle.mmt_casting.proofs.Counts.{first-none, later-none}
use Rattle.mmt_casting.proofs.Sendings.{few-aus}
use Rattle.mmt_casting.proofs.Spots.{mpu-here, unit-of}
use Rattle.mmt_casting.specs.Places.{IsSpot, asset_at, placed_at}
use Rattle.mmt_casting.specs.Spans.{unit_by}
use Rattle.mmt_casting.specs.declared.units.Run.{Run}
use Rattle.mmt_model.specs.declared.casts.SentUnit.{SentUnit}
use Rattle.mmt_casting.specs.Timed.{IsTimed, sample_time, times_of}
use Rattle.mmt_casting.specs.declared.places.Spot.{Spot}
use Rattle.mmt_model.specs.Handing.{time_for}
use Rattle.mmt_model.specs.Right.{IsRight, no_asset}
use Rattle.mmt_model.specs.declared.keys.UnitKey.{UnitKey}
use Rattle.mmt_model.specs.declared.keys.UnitKey.TheVariants as keys
use Rattle.mmt_model.specs.declared.programmes.Programme.{Programme}

-- the MPU of a spot has few access units, and a timescale
pub mpu-few : (programme : Programme) → IsRight programme → (s : Spot) → IsSpot programme s → s.asset < length programme.assets → length (placed_at programme s).value.aus ≤ 60
mpu-few programme right s is l =
    let asset = right.assets s.asset no_asset l in
    few-aus (asset_at programme s.asset).timed (length (placed_at programme s).value.aus) (asset.mpus s.mpu no_mpu (is.inside l).0).few

pub scale-some : (programme : Programme) → IsRight programme → (a : ℕ) → a < length programme.assets → 1 ≤ (asset_at programme a).timescale
scale-some programme right a l = (right.assets a no_asset l).timescale_some

-- where no time is out of range, those of an MPU are not
each-none : (ms : List PlacedMpu) → refusal_of_mpus ms ≡ None → AllByRecursion (λ m. refusal_of_mpu m ≡ None) ms
unfolding refusal_of_mpus
each-none [] e = tt
each-none (m ∷ ms) e = (first-none (refusal_of_mpu m) (refusal_of_mpus ms) e, each-none ms (later-none (refusal_of_mpu m) (refusal_of_mpus ms) e))

au-none : (m : PlacedMpu) (o : Option ℕ) → of_au m o ≡ None → o ≡ None
au-none m None e = refl
au-none m (Some au) e = absurd cc

own-timed : (m : PlacedMpu) → refusal_of_mpu m ≡ None → IsTimed m.value m.in_asset.timescale
unfolding refusal_of_mpu
own-timed m e = au-none m (out_of_range 0 (times_of m.value m.in_asset.timescale)) e

pub mpu-timed : (programme : Programme) (s : Spot) → refusal_of_mpus (all_mpus programme) ≡ None → IsSpot programme s → s.asset < length programme.assets → IsTimed (placed_at programme s).value (asset_at programme s.asset).timescale
unfolding mpu_at
mpu-timed programme s none is l =
    let h = mpu-here programme s is l in
    let e : refusal_of_mpu (get_or (all_mpus programme) s.mpu_place no_placed_mpu) ≡ None = each-at (λ m. refusal_of_mpu m ≡ None) (all_mpus programme) s.mpu_place no_placed_mpu (each-none (all_mpus programme) none) h.0 in
    own-timed (placed_at programme s) (ap refusal_of_mpu (sym h.1) ∙ e)

-- the time of a unit by its key
time-is : (programme : Programme) (s : Spot) (key : UnitKey) → IsSpot programme s → s.asset < length programme.assets → (unit_at programme s.unit_place).value.key ≡ key → time_of_unit (unit_at programme s.unit_place) ≡ time_for 1 (entry_of_mpu (placed_at programme s)) key
unfolding time_of_unit
time-is programme s key is l e =
    let u = unit-of programme s no_placed_unit.value is l in
    ap (λ (x : PlacedUnit). time_for 1 (entry_of_mpu x.in_mpu) (unit_at programme s.unit_place).value.key) u.is ∙ ap (time_for 1 (entry_of_mpu (placed_at programme s))) e

pub timed-time : (programme : Programme) (s : Spot) (fragment sample offset t : ℕ) → IsSpot programme s → s.asset < length programme.assets → (unit_at programme s.unit_place).value.key ≡ keys.Timed fragment sample offset
    → t ≡ sample_time (placed_at programme s).value (asset_at programme s.asset).timescale sample → t ≡ time_of_unit (unit_at programme s.unit_place)
unfolding time_for entry_of_mpu
timed-time programme s fragment sample offset t is l e et = et ∙ sym (time-is programme s (keys.Timed fragment sample offset) is l e)

pub item-time : (programme : Programme) (s : Spot) (item t : ℕ) → IsSpot programme s → s.asset < length programme.assets → (unit_at programme s.unit_place).value.key ≡ keys.Item item → t ≡ (placed_at programme s).value.time.0 → t ≡ time_of_unit (unit_at programme s.unit_place)
unfolding time_for entry_of_mpu
item-time programme s item t is l e et = et ∙ sym (time-is programme s (keys.Item item) is l e)

-- a unit that is sent, by its parts
abbrev pub made : ℕ → ℕ → ℕ → UnitKey → ℕ → ℕ → Run → SentUnit
made a b c key t d run =
    record { asset = a; mpu = b; unit = c; key = key; time = record { 0 = t }; due = record { 0 = d }; first = run.first; last = run.last; first_number = run.first_number; count = run.count }

-- a unit as it is sent, from its parts
pub unit-made : (programme : Programme) (s : Spot) (run : Run) (key : UnitKey) (t : Ntp) (d : LongTick) → IsSpot programme s → s.asset < length programme.assets → key ≡ (unit_at programme s.unit_place).value.key → t.0 ≡ time_of_unit (unit_at programme s.unit_place)
    → d.0 ≡ due_of t.0
    → made s.asset s.mpu s.unit key t.0 d.0 run ≡ unit_by (unit_at programme s.unit_place) run
unfolding due_of_placed
unit-made programme s run key t d is l ek et ed =
    let x : PlacedUnit = unit_at programme s.unit_place in
    let u = unit-of programme s no_placed_unit.value is l in
    ap₂ (λ a b. made a b s.unit key t.0 d.0 run) (sym (ap (λ (y : PlacedUnit). y.in_mpu.asset) u.is)) (sym (ap (λ (y : PlacedUnit). y.in_mpu.mpu) u.is))
    ∙ (ap₂ (λ c k. made x.in_mpu.asset x.in_mpu.mpu c k t.0 d.0 run) (sym (ap (λ (y : PlacedUnit). y.unit) u.is)) ek
    ∙ ap₂ (λ v w. made x.in_mpu.asset x.in_mpu.mpu x.unit x.value.key v w run) et (ed ∙ ap due_of et))
