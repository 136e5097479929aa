use Rattle.std.proofs.Common.{◌≡◌, ◌⊎◌, Some}
use Rattle.mmt_pool.specs.declared.types.Span.{Span}
use Rattle.mmt_pool.specs.Holding.{packet_at as kept_at}
use Rattle.mmt_runs.specs.Index.{HasTimes, Keeps, at_span, spelled_at}
use Rattle.mmt_runs.proofs.starting.put_named.Given as goal

abbrev pub invariant-loop-span : goal.invariant-loop-span
invariant-loop-span l = record {
  keeps : Keeps l.initial.index.keys l.index.keys;
  put : (s : Span) → s.packet_id ≡ l.packet_id → at_span l.starts.entries s ≡ Some l.mpu → HasTimes l.index.keys l.names s (spelled_at (kept_at l.pool.kept s.packet_id s.number)) ⊎ (at_span l.span-iterator s ≡ Some l.mpu);
}
