use Rattle.std.proofs.Common.{length, arith, ap, ◌∙◌, sym, subst}
use Rattle.mmt_casting.proofs.Spots.{behind-spot, further-spot, spot-fits}
use Rattle.mmt_casting.specs.Places.{IsSpot}
use Rattle.mmt_model.specs.declared.programmes.Mpu.{Mpu}
use Rattle.mmt_model.specs.declared.programmes.Asset.{Asset}
use Rattle.mmt_casting.proofs.places.after.Goals as goal

pub overflow_add-unit : goal.overflow_add-unit
overflow_add-unit c =
    let f = spot-fits c.args.programme.now c.requires.right c.args.spot c.requires.spot c.requires.inside in
    omega (arith, f.own, c.requires.within)

pub overflow_add-unit_place : goal.overflow_add-unit_place
overflow_add-unit_place c =
    let f = spot-fits c.args.programme.now c.requires.right c.args.spot c.requires.spot c.requires.inside in
    omega (arith, f.room, f.units, c.requires.within, (c.requires.spot.inside c.requires.inside).1)

pub first_after-requires-clause-mpu : goal.first_after-requires-clause-mpu
first_after-requires-clause-mpu c =
    let f = spot-fits c.args.programme.now c.requires.right c.args.spot c.requires.spot c.requires.inside in
    omega (arith, f.mpu, (c.requires.spot.inside c.requires.inside).0)

pub first_after-requires-clause-mpu_place : goal.first_after-requires-clause-mpu_place
first_after-requires-clause-mpu_place c =
    let f = spot-fits c.args.programme.now c.requires.right c.args.spot c.requires.spot c.requires.inside in
    omega (arith, f.mpu_place)

pub returns-then-unit-units-clause-spot : goal.returns-then-unit-units-clause-spot
returns-then-unit-units-clause-spot c =
    further-spot c.args.programme.now c.args.spot c.args.size c.requires.spot c.requires.inside
    (omega (arith, c.if-unit-units.true, c.len-units.ensures, ap (λ (m : Mpu). length m.units) c.mpu_of.ensures))

pub returns-else-unit-units-clause-spot : goal.returns-else-unit-units-clause-spot
returns-else-unit-units-clause-spot c =
    subst (IsSpot c.args.programme.now) (sym c.first_after.ensures.value)
    (behind-spot c.args.programme.now c.requires.right c.args.spot c.args.size c.len-mpus.result c.requires.spot c.requires.inside
    (omega (arith, c.if-unit-units.false, c.len-units.ensures, ap (λ (m : Mpu). length m.units) c.mpu_of.ensures, c.requires.within))
    (c.len-mpus.ensures ∙ ap (λ (x : Asset). length x.mpus) c.asset_of.ensures))
