use Rattle.std.proofs.Common.{◌≡◌, None, drop}
use Rattle.mmt_plan.specs.Signals.{rises_after}
use Rattle.mmt_plan.proofs.signals.is_rising.Given as goal

abbrev pub invariant-loop-pair : goal.invariant-loop-pair
invariant-loop-pair l = rises_after None l.pairs ≡ rises_after l.last (drop l.pair-index l.pairs)
