use Rattle.std.proofs.Common.{◌≡◌, replicate, None}
use Rattle.mmt_pace.proofs.jobs.no_limits.Given as goal

abbrev pub invariant-loop-id : goal.invariant-loop-id
invariant-loop-id l = l.limits.items ≡ replicate l._id None
