use Rattle.std.proofs.Common.{◌≤◌, length}
use Rattle.mmt_io.proofs.ahead.Ahead.read.Given as goal

abbrev pub invariant-loop : goal.invariant-loop
invariant-loop g l = l.count ≤ length l.buf
