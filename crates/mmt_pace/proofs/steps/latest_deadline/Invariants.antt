use Rattle.std.proofs.Common.{◌≡◌, map, take}
use Rattle.mmt_cast.specs.Casting.{greatest}
use Rattle.mmt_pace.specs.Pacing.{deadline_by}
use Rattle.mmt_pace.proofs.steps.latest_deadline.Given as goal

abbrev pub invariant-loop-i : goal.invariant-loop-i
invariant-loop-i l = l.latest ≡ greatest (map deadline_by (take l.i l.jobs))
