use Rattle.std.proofs.Common.{arith, ap, refl}
use Rattle.mmt_cast.proofs.FromRight.{ticks-fit}
use Rattle.mmt_cast.specs.Right.{no_placed_unit}
use Rattle.mmt_casting.proofs.Grouped.{alone-all, alone-numbers, group-all}
use Rattle.mmt_casting.proofs.Spots.{unit-of}
use Rattle.mmt_model.specs.declared.programmes.Unit.{Unit as PlannedUnit}
use Rattle.mmt_casting.proofs.sending.put_group.Goals as goal

pub returns-then-group-gt1 : goal.returns-then-group-gt1
returns-then-group-gt1 c =
    group-all c.args.programme.now c.args.spot c.args.group c.args.number c.group_packet.result c.args.out.now.items c.push.new.self.items c.requires.group c.if-group-gt1.true c.group_packet.ensures c.in_ok-push.ensures.items

pub put_alone-requires-clause-at : goal.put_alone-requires-clause-at
put_alone-requires-clause-at c =
    let u = unit-of c.args.programme.now c.args.spot no_placed_unit.value c.requires.spot c.requires.inside in
    omega (arith, (ticks-fit c.args.programme.now c.requires.right).units c.args.spot.unit_place u.of, ap (λ (x : PlannedUnit). x.at.0) c.unit_of.ensures)

pub put_alone-requires-clause-numbers : goal.put_alone-requires-clause-numbers
put_alone-requires-clause-numbers c =
    alone-numbers c.args.programme.now c.args.spot c.args.group c.args.number c.unit_of.result.now.length c.requires.group c.if-group-gt1.false (ap (λ (x : PlannedUnit). x.length) c.unit_of.ensures) c.requires.numbers

pub returns : goal.returns
returns c =
    alone-all c.args.programme.now c.args.spot c.args.group (record { u = c.args.spot.unit_place; unit = c.args.spot.unit; number = c.args.number }) c.asset_of-asset.result.now c.unit_of.result.now c.args.out.now.items c.put_alone.new.out.items
    c.requires.spot c.requires.inside c.requires.group c.if-group-gt1.false c.asset_of-asset.ensures c.unit_of.ensures refl refl c.in_ok-put_alone.ensures
