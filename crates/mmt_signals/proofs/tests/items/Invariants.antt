use Rattle.std.proofs.Common.{◌≡◌, map}
use Rattle.mmt_model.specs.Carrying.{numbers}
use Rattle.mmt_signals.specs.Sample.{plain_mpu}
use Rattle.mmt_signals.proofs.tests.items.Given as goal

abbrev pub invariant-loop-number : goal.invariant-loop-number
invariant-loop-number l = l.mpus ≡ map plain_mpu (numbers 0 l.number)
