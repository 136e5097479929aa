use Rattle.std.proofs.Common.{◌≡◌, None}
use Rattle.mmt_admit.specs.Calm.{IsCalm}
use Rattle.mmt_model.specs.Admission.{fault_of_live, first_below}
use Rattle.mmt_admit.proofs.live.first_live.Given as goal

abbrev pub invariant-loop-c : goal.invariant-loop-c
invariant-loop-c l = (first_below (fault_of_live l.cast) l.c ≡ None) × IsCalm l.cast.mpus l.calm
