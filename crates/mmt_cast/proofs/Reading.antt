-- What stands at a place of a cast of a programme.
use Rattle.std.proofs.Common.{◌≡◌, ℕ, ◌+◌, ◌<◌, suc, ◌==◌, ◌&&◌, cond, List, [], ◌∷◌, length, refl, ap, ap₂, sym, ◌∙◌}
use Rattle.mmt_cast.proofs.Listing.{at-map_from_0, each-at, length-map_from}
use Rattle.mmt_cast.proofs.Placed.{IsPlacedUnit, mpu-place, placed-units}
use Rattle.mmt_cast.specs.Casting.{cast_of, mpu_as_sent, place_of_mpu, unit_as_sent}
use Rattle.mmt_cast.specs.Placing.{PlacedMpu, all_mpus, all_units, entry_of_mpu, map_from}
use Rattle.mmt_cast.specs.Right.{contents_of, mpu_at, no_placed_mpu, no_placed_unit, unit_at}
use Rattle.mmt_model.specs.Carrying.{entry_of_unit, mpu_of, mpu_place, no_sent_mpu, no_sent_unit, sent_mpu, sent_unit}
use Rattle.mmt_model.specs.declared.programmes.Programme.{Programme}

pub length-units : (programme : Programme) → length (cast_of programme).units ≡ length (all_units programme)
unfolding cast_of
length-units programme = length-map_from (unit_as_sent programme) 0 (all_units programme)

pub length-mpus : (programme : Programme) → length (cast_of programme).mpus ≡ length (all_mpus programme)
unfolding cast_of
length-mpus programme = length-map_from (mpu_as_sent programme) 0 (all_mpus programme)

pub unit-sent : (programme : Programme) (u : ℕ) → u < length (all_units programme) → sent_unit (cast_of programme) u ≡ unit_as_sent programme u (unit_at programme u)
unfolding sent_unit cast_of unit_at
unit-sent programme u l = at-map_from_0 (unit_as_sent programme) (all_units programme) u no_placed_unit no_sent_unit l

pub mpu-sent : (programme : Programme) (m : ℕ) → m < length (all_mpus programme) → sent_mpu (cast_of programme) m ≡ mpu_as_sent programme m (mpu_at programme m)
unfolding sent_mpu cast_of mpu_at
mpu-sent programme m l = at-map_from_0 (mpu_as_sent programme) (all_mpus programme) m no_placed_mpu no_sent_mpu l

same-place : (programme : Programme) (n a b : ℕ) (ms : List PlacedMpu) → mpu_place (map_from (mpu_as_sent programme) n ms) a b ≡ place_of_mpu ms (a, b)
unfolding mpu_place place_of_mpu map_from mpu_as_sent
same-place programme n a b [] = refl
same-place programme n a b (m ∷ ms) = ap (λ k. cond ((m.asset == a) && (m.mpu == b)) 0 (suc k)) (same-place programme (n + 1) a b ms)

-- the MPU of a unit is the one in which the programme has it
pub mpu-of : (programme : Programme) (u : ℕ) → u < length (all_units programme) → mpu_of (cast_of programme) u ≡ (unit_at programme u).mpu_place
unfolding mpu_of unit_as_sent cast_of unit_at
mpu-of programme u l =
    let x = unit_at programme u in
    let placed : IsPlacedUnit programme x = each-at (IsPlacedUnit programme) (all_units programme) u no_placed_unit (placed-units programme) l in
    ap₂ (mpu_place (cast_of programme).mpus) (ap (λ s. s.asset) (unit-sent programme u l)) (ap (λ s. s.mpu) (unit-sent programme u l))
    ∙ (same-place programme 0 x.in_mpu.asset x.in_mpu.mpu (all_mpus programme)
    ∙ (ap (λ (m : PlacedMpu). place_of_mpu (all_mpus programme) (m.asset, m.mpu)) (sym placed.1)
    ∙ mpu-place programme x.mpu_place placed.0))

pub placed-unit : (programme : Programme) (u : ℕ) → u < length (all_units programme) → IsPlacedUnit programme (unit_at programme u)
unfolding unit_at
placed-unit programme u l = each-at (IsPlacedUnit programme) (all_units programme) u no_placed_unit (placed-units programme) l

-- and it is named by its entry
pub entry-of-unit : (programme : Programme) (files messages : ℕ → List ℕ) (u : ℕ) → u < length (all_units programme) → entry_of_unit (cast_of programme) (contents_of programme files messages) u ≡ entry_of_mpu (unit_at programme u).in_mpu
unfolding entry_of_unit contents_of
entry-of-unit programme files messages u l = ap (λ m. entry_of_mpu (mpu_at programme m)) (mpu-of programme u l) ∙ ap entry_of_mpu (placed-unit programme u l).1
