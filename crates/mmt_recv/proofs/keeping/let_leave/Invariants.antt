use Rattle.std.proofs.Common.{◌≡◌, length, filter}
use Rattle.mmt_pool.specs.Holding.{is_in_window}
use Rattle.mmt_recv.proofs.keeping.let_leave.Given as goal

abbrev pub invariant-packets : goal.invariant-packets
invariant-packets l = record {
  kept : filter (is_in_window l.clock.0 0) l.pool.kept ≡ filter (is_in_window l.clock.0 0) l.initial.pool.kept;
  bound : l.pool.bound ≡ l.initial.pool.bound;
}

abbrev pub decreases-packets : goal.decreases-packets
decreases-packets l = length l.pool.kept
