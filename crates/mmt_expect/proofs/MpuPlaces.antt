-- The place of a unit's MPU among those of the cast.
use Rattle.std.proofs.Common.{◌≡◌, ℕ, ◌+◌, ◌<◌, length, get_or, arith, ap, sym, ◌∙◌, subst}
use Rattle.std.specs.List.{AllByRecursion}
use Rattle.mmt_cast.proofs.Listing.{each-at}
use Rattle.mmt_cast.proofs.Placed.{each-flat_map_from, each-map_from_at, mpu-place, placed_in}
use Rattle.mmt_cast.proofs.Reading.{length-mpus, length-units, mpu-of, placed-unit, unit-sent}
use Rattle.mmt_cast.specs.Casting.{cast_of, place_of_mpu, unit_as_sent}
use Rattle.mmt_cast.specs.Placing.{PlacedMpu, all_mpus, all_units, mpus_of}
use Rattle.mmt_cast.specs.Right.{mpu_at, no_mpu, no_placed_mpu, unit_at}
use Rattle.mmt_casting.proofs.Starting.{place-is}
use Rattle.mmt_casting.specs.Spans.{start_of}
use Rattle.mmt_model.specs.Carrying.{mpu_of, sent_unit}
use Rattle.mmt_model.specs.Right.{IsKnown, no_asset}
use Rattle.mmt_model.specs.declared.casts.Cast.{Cast}
use Rattle.mmt_model.specs.declared.programmes.Programme.{Programme}

mpus-known : (programme : Programme) → AllByRecursion (λ (x : PlacedMpu). IsKnown programme.assets (x.asset, x.mpu)) (all_mpus programme)
unfolding all_mpus mpus_of
mpus-known programme =
    each-flat_map_from (λ (x : PlacedMpu). IsKnown programme.assets (x.asset, x.mpu)) mpus_of 0 programme.assets no_asset
    (λ a la. each-map_from_at (λ (x : PlacedMpu). IsKnown programme.assets (x.asset, x.mpu)) (placed_in (0 + a) (get_or programme.assets a no_asset)) 0 (get_or programme.assets a no_asset).mpus no_mpu
    (λ b lb.
    (let za : a ≡ 0 + a = omega arith in
    let zb : b ≡ 0 + b = omega arith in
    subst (λ n. IsKnown programme.assets (n, 0 + b)) za (subst (λ n. IsKnown programme.assets (a, n)) zb (la, lb)))))

-- the MPU of a unit is known by its places, and stands where its asset's MPUs begin and its own there
pub record IsMpuOf (programme : Programme) (cast : Cast) (u : ℕ) : Type 0 where
  pub known : IsKnown programme.assets ((sent_unit cast u).asset, (sent_unit cast u).mpu)
  pub place : start_of programme (sent_unit cast u).asset + (sent_unit cast u).mpu ≡ mpu_of cast u
  pub within : mpu_of cast u < length cast.mpus

of-programme : (programme : Programme) (u : ℕ) → u < length (cast_of programme).units → IsMpuOf programme (cast_of programme) u
unfolding unit_as_sent mpu_at
of-programme programme u l =
    let lu : u < length (all_units programme) = omega (arith, l, length-units programme) in
    let x = unit_at programme u in
    let placed = placed-unit programme u lu in
    let name : ℕ × ℕ = (x.in_mpu.asset, x.in_mpu.mpu) in
    let known : IsKnown programme.assets name =
    subst (λ (m : PlacedMpu). IsKnown programme.assets (m.asset, m.mpu)) placed.1
    (each-at (λ (y : PlacedMpu). IsKnown programme.assets (y.asset, y.mpu)) (all_mpus programme) x.mpu_place no_placed_mpu (mpus-known programme) placed.0) in
    let sent = unit-sent programme u lu in
    let of = mpu-of programme u lu in
    let place : place_of_mpu (all_mpus programme) name ≡ x.mpu_place =
    ap (λ (m : PlacedMpu). place_of_mpu (all_mpus programme) (m.asset, m.mpu)) (sym placed.1) ∙ mpu-place programme x.mpu_place placed.0 in
    record {
      known = subst (λ s. IsKnown programme.assets (s.asset, s.mpu)) (sym sent) known;
      place = ap (λ s. start_of programme s.asset + s.mpu) sent ∙ (place-is programme name known ∙ (place ∙ sym of));
      within = omega (arith, of, placed.0, length-mpus programme);
    }

pub mpu-is : (programme : Programme) (cast : Cast) (u : ℕ) → cast ≡ cast_of programme → u < length cast.units → IsMpuOf programme cast u
mpu-is programme cast u is l = subst (λ (x : Cast). IsMpuOf programme x u) (sym is) (of-programme programme u (omega (arith, l, ap (λ (x : Cast). length x.units) is)))
