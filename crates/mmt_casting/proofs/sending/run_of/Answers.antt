use Rattle.std.proofs.Common.{◌+◌, ◌*◌, ◌-◌, arith, ap, refl}
use Rattle.mmt_cast.proofs.FromRight.{ticks-fit}
use Rattle.mmt_casting.proofs.Grouped.{count-some, product-fits, run-is}
use Rattle.mmt_casting.proofs.Spots.{unit-of}
use Rattle.mmt_cast.specs.Right.{no_placed_unit}
use Rattle.mmt_model.specs.declared.programmes.Unit.{Unit as PlannedUnit}
use Rattle.mmt_casting.proofs.sending.run_of.Goals as goal

pub overflow_sub-result : goal.overflow_sub-result
overflow_sub-result c = omega (arith, count-some c.args.programme.now c.requires.right c.args.spot c.args.group c.requires.spot c.requires.inside c.requires.group, c.group_packets-count.ensures.count)

pub overflow_add-result : goal.overflow_add-result
overflow_add-result c =
    let u = unit-of c.args.programme.now c.args.spot no_placed_unit.value c.requires.spot c.requires.inside in
    omega (
      arith,
      (ticks-fit c.args.programme.now c.requires.right).units c.args.spot.unit_place u.of,
      ap (λ (x : PlannedUnit). x.at.0) c.unit_of.ensures,
      product-fits (c.group_packets-count.result - 1) c.args.programme.now.spacing (omega (arith, c.group_packets-count.ensures.few)) c.requires.right.spacing,
    )

pub returns : goal.returns
returns c =
    run-is c.args.programme.now c.args.spot c.args.group c.args.number c.group_packets-count.result c.unit_of.result.now.at (record { 0 = c.unit_of.result.now.at.0 + (c.group_packets-count.result - 1) * c.args.programme.now.spacing })
    c.requires.group c.group_packets-count.ensures.count (ap (λ (x : PlannedUnit). x.at) c.unit_of.ensures) refl
