use Rattle.std.proofs.Common.{ap}
use Rattle.mmt_casting.proofs.Counts.{alone-few, count-alone, count-group}
use Rattle.mmt_model.specs.declared.programmes.Unit.{Unit as PlannedUnit}
use Rattle.mmt_casting.proofs.counting.group_packets.Goals as goal

pub returns-then-group-gt1-clause-count : goal.returns-then-group-gt1-clause-count
returns-then-group-gt1-clause-count c = count-group c.args.programme.now c.args.spot c.args.group c.requires.group c.if-group-gt1.true

pub returns-else-group-gt1-clause-count : goal.returns-else-group-gt1-clause-count
returns-else-group-gt1-clause-count c =
    count-alone c.args.programme.now c.args.spot c.args.group c.parts.result c.unit_of.result.now.length c.requires.group c.if-group-gt1.false c.parts.ensures (ap (λ (x : PlannedUnit). x.length) c.unit_of.ensures)

pub returns-else-group-gt1-clause-few : goal.returns-else-group-gt1-clause-few
returns-else-group-gt1-clause-few c =
    alone-few c.args.programme.now c.requires.right c.args.spot c.parts.result c.unit_of.result.now.length c.requires.spot c.requires.inside c.parts.ensures (ap (λ (x : PlannedUnit). x.length) c.unit_of.ensures)
