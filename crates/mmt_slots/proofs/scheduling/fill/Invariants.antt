use Rattle.std.proofs.Common.{length}
use Rattle.mmt_slots.specs.Lines.{in_line}
use Rattle.mmt_slots.proofs.Filling.{AreFilled}
use Rattle.mmt_slots.proofs.scheduling.fill.Given as goal

abbrev pub invariant-loop-line : goal.invariant-loop-line
invariant-loop-line l = AreFilled l.jobs l.slots l.from l.line l.given.items

abbrev pub decreases-loop-line : goal.decreases-loop-line
decreases-loop-line l = length (in_line l.line)
