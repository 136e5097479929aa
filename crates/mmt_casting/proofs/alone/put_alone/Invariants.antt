use Rattle.std.proofs.Common.{◌≡◌, ◌++◌, map}
use Rattle.mmt_casting.specs.Alone.{alone_packet}
use Rattle.mmt_model.specs.Carrying.{numbers}
use Rattle.mmt_casting.proofs.alone.put_alone.Given as goal

abbrev pub invariant-loop-k : goal.invariant-loop-k
invariant-loop-k l = l.out.items ≡ l.initial.out.items ++ map (alone_packet l.programme l.asset l.unit l.place) (numbers 0 l.k)
