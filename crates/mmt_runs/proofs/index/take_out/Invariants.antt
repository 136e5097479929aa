use Rattle.std.proofs.Common.{length}
use Rattle.mmt_runs.specs.Index.{KeepsOthers}
use Rattle.mmt_runs.proofs.index.take_out.Given as goal

abbrev pub invariant-units : goal.invariant-units
invariant-units l = KeepsOthers l.initial.index.keys l.index.keys l.span

abbrev pub decreases-units : goal.decreases-units
decreases-units l = length l.begun.keys
