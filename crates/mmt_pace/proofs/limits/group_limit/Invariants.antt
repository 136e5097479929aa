use Rattle.std.proofs.Common.{◌≡◌, ◌≤◌, map}
use Rattle.mmt_cast.specs.Casting.{least}
use Rattle.mmt_model.specs.Carrying.{numbers}
use Rattle.mmt_pace.specs.Deadlines.{unit_limit}
use Rattle.mmt_pace.proofs.limits.group_limit.Given as goal

abbrev pub invariant-loop-k : goal.invariant-loop-k
invariant-loop-k l = (1 ≤ l.k) × (l.limit ≡ least (map (unit_limit l.cast) (numbers l.first l.k)))
