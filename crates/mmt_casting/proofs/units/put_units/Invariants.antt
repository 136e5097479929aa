use Rattle.std.proofs.Common.{◌≡◌, ◌++◌}
use Rattle.mmt_casting.specs.Spans.{units_by}
use Rattle.mmt_casting.proofs.units.put_units.Given as goal

abbrev pub invariant-loop-k : goal.invariant-loop-k
invariant-loop-k l = l.out.items ≡ l.initial.out.items ++ units_by l.programme l.run l.spot.unit_place l.k
