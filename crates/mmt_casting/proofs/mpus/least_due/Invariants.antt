use Rattle.std.proofs.Common.{◌≡◌, map, take, drop}
use Rattle.mmt_cast.specs.Casting.{least}
use Rattle.mmt_casting.specs.MpusOf.{due_tick}
use Rattle.mmt_casting.proofs.mpus.least_due.Given as goal

abbrev pub invariant-loop-i : goal.invariant-loop-i
invariant-loop-i l = l.due.0 ≡ least (map due_tick (take l.i (drop l.first l.units)))
