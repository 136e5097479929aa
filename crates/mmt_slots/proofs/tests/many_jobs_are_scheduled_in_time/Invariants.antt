use Rattle.std.proofs.Common.{◌≤◌, length}
use Rattle.mmt_slots.proofs.tests.many_jobs_are_scheduled_in_time.Given as goal

abbrev pub invariant-loop-n : goal.invariant-loop-n
invariant-loop-n g l = length l.jobs ≤ l.n
