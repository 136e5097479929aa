use Rattle.std.proofs.Common.{◌≡◌, ◌+◌, drop}
use Rattle.mmt_model.specs.Admission.{first_parameters}
use Rattle.mmt_admit.proofs.starts.first_of.Given as goal

abbrev pub invariant-loop-n : goal.invariant-loop-n
invariant-loop-n l = first_parameters l.packets ≡ l.n + first_parameters (drop l.n l.packets)
