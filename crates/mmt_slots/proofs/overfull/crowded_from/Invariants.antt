use Rattle.std.proofs.Common.{◌≡◌, ℕ, drop}
use Rattle.mmt_slots.specs.Lines.{waiting_within, IsCrowded}
use Rattle.mmt_slots.proofs.overfull.crowded_from.Given as goal

abbrev pub invariant-loop-job : goal.invariant-loop-job
invariant-loop-job l = (l.jobs ≡ waiting_within (drop l.job-index l.order) 0 l.to) × ((slot : ℕ) × IsCrowded l.slots slot l.to (drop l.job-index l.order))
