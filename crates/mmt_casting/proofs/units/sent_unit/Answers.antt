use Rattle.std.proofs.Common.{ap}
use Rattle.mmt_casting.proofs.UnitTimes.{unit-made}
use Rattle.mmt_model.specs.declared.programmes.Unit.{Unit as PlannedUnit}
use Rattle.mmt_casting.proofs.units.sent_unit.Goals as goal

pub returns : goal.returns
returns c =
    unit-made c.args.programme.now c.args.spot c.args.run c.unit_of.result.now.key c.unit_time-time.result c.long_due_of.result c.requires.spot c.requires.inside (ap (λ (x : PlannedUnit). x.key) c.unit_of.ensures) c.unit_time-time.ensures c.long_due_of.ensures
