use Rattle.std.proofs.Common.{◌≡◌}
use Rattle.mmt_pace.proofs.Retiming.{retimed_to}
use Rattle.mmt_pace.specs.Recast.{ticks_of}
use Rattle.mmt_pace.proofs.timing.retimed.Given as goal

abbrev pub invariant-loop-n : goal.invariant-loop-n
invariant-loop-n l = l.moved.items ≡ retimed_to (ticks_of l.slots l.given) l.packets l.n
