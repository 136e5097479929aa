use Rattle.std.proofs.Common.{◌≡◌, take}
use Rattle.mmt_slots.specs.Lines.{named}
use Rattle.mmt_slots.proofs.line.named.Given as goal

abbrev pub invariant-loop-place : goal.invariant-loop-place
invariant-loop-place l = l.all.items ≡ named 0 (take l.place l.jobs)
