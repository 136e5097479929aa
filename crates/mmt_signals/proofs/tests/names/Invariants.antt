use Rattle.std.proofs.Common.{◌≡◌, ◌∷◌, map}
use Rattle.mmt_model.specs.Carrying.{numbers}
use Rattle.mmt_signals.specs.Sample.{item_name}
use Rattle.mmt_signals.proofs.tests.names.Given as goal

abbrev pub invariant-loop-number : goal.invariant-loop-number
invariant-loop-number l = l.names ≡ (0, 0) ∷ (0, 1) ∷ map item_name (numbers 0 l.number)
