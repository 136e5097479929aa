use Rattle.std.proofs.Common.{◌≡◌, ◌≤◌, take}
use Rattle.mmt_slots.specs.Lines.{waiting_within}
use Rattle.mmt_slots.proofs.overfull.jobs_within.Given as goal

abbrev pub invariant-loop-job : goal.invariant-loop-job
invariant-loop-job l = (l.jobs ≡ waiting_within (take l.job-index l.order) l.from l.to) × (l.jobs ≤ l.job-index)
