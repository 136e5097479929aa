use Rattle.std.proofs.Common.{◌≡◌}
use Rattle.std.specs.List.{flat_map}
use Rattle.mmt_made.specs.Generator.{copies, swapped}
use Rattle.mmt_model.specs.Carrying.{numbers}
use Rattle.mmt_made.proofs.dropping.delivery.Given as goal

abbrev pub invariant-loop-turn : goal.invariant-loop-turn
invariant-loop-turn l = l.list ≡ flat_map (λ i. copies l.seed (swapped l.count i)) (numbers 0 l.turn)
