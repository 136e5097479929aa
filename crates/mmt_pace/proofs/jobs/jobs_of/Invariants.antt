use Rattle.std.proofs.Common.{◌-◌}
use Rattle.mmt_pace.proofs.Deadlined.{AreMade}
use Rattle.mmt_pace.proofs.jobs.jobs_of.Given as goal

abbrev pub invariant-loop-i : goal.invariant-loop-i
invariant-loop-i l = AreMade l.cast l.cast.packets (l.count - l.i) l.jobs.items l.least.items
