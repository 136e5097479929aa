use Rattle.std.proofs.Common.{◌≡◌, length, filter}
use Rattle.mmt_pool.specs.Holding.{is_in_window}
use Rattle.mmt_runs.specs.Told.{IsTold}
use Rattle.mmt_recv.proofs.keeping.expire.Given as goal

abbrev pub invariant-packets : goal.invariant-packets
invariant-packets l = record {
  told : IsTold l.runs l.pool.kept l.names;
  kept : filter (is_in_window l.clock.0 l.window) l.pool.kept ≡ filter (is_in_window l.clock.0 l.window) l.initial.pool.kept;
  bound : l.pool.bound ≡ l.initial.pool.bound;
  peak : l.pool.peak ≡ l.initial.pool.peak;
}

abbrev pub decreases-packets : goal.decreases-packets
decreases-packets l = length l.pool.kept
