use Rattle.std.proofs.Common.{◌≡◌, List, length, drop, cond, arith, ap, ◌∙◌}
use Rattle.mmt_casting.proofs.Spots.{group-is, spot-fits}
use Rattle.mmt_casting.specs.Places.{bytes_of, placed_at, size_of}
use Rattle.mmt_model.specs.declared.programmes.Asset.{Asset}
use Rattle.mmt_model.specs.declared.programmes.Mpu.{Mpu}
use Rattle.mmt_model.specs.declared.programmes.Unit.{Unit as PlannedUnit}
use Rattle.mmt_casting.proofs.walking.group_at.Goals as goal

pub group_of-requires-clause-inside : goal.group_of-requires-clause-inside
group_of-requires-clause-inside c =
    omega (arith, (c.requires.spot.inside c.requires.inside).1, ap (λ (xs : List PlannedUnit). length xs) c.as_slice-units.ensures, ap (λ (m : Mpu). length m.units) c.mpu_of.ensures)

pub group_of-requires-clause-few : goal.group_of-requires-clause-few
group_of-requires-clause-few c =
    let f = spot-fits c.args.programme.now c.requires.right c.args.spot c.requires.spot c.requires.inside in
    omega (arith, f.own, ap (λ (xs : List PlannedUnit). length xs) c.as_slice-units.ensures, ap (λ (m : Mpu). length m.units) c.mpu_of.ensures)

pub returns : goal.returns
returns c =
    let units : c.as_slice-units.result.now ≡ (placed_at c.args.programme.now c.args.spot).value.units = c.as_slice-units.ensures ∙ ap (λ (m : Mpu). m.units) c.mpu_of.ensures in
    group-is c.args.programme.now c.args.spot c.group_of.result c.header_length-header.result c.requires.spot c.requires.inside
    (c.header_length-header.ensures.value ∙ ap (λ (x : Asset). cond x.timed 14 4) c.asset_of.ensures)
    (c.group_of.ensures.size ∙ ap (λ xs. size_of c.header_length-header.result c.args.programme.now.limit (drop c.args.spot.unit xs)) units)
    (c.group_of.ensures.bytes ∙ ap (λ xs. bytes_of c.header_length-header.result c.args.programme.now.limit (drop c.args.spot.unit xs)) units)
