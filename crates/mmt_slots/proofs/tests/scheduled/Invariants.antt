use Rattle.std.proofs.Common.{◌≤◌, length}
use Rattle.mmt_slots.proofs.tests.scheduled.Given as goal

abbrev pub invariant-loop-release : goal.invariant-loop-release
invariant-loop-release l = length l.list ≤ l.release-index
