-- How a run of `trial` ends.
use Rattle.std.proofs.Common.{◌≡◌, ℕ, Bool, IsTrue, inr, List, length, Option, Ok, Err, subst}
use Rattle.mmt_cast.specs.Casting.{cast_of}
use Rattle.mmt_desk.specs.Answers.{IsTrialAnswer, trial_end}
use Rattle.mmt_desk.specs.Lists.{IsListAnswer}
use Rattle.mmt_model.specs.declared.casts.Cast.{Cast}
use Rattle.mmt_model.specs.declared.programmes.Programme.{Programme}
use Rattle.mmt_mux.proofs.Holding.{never_short}
use Rattle.mmt_mux.specs.Sendable.{sendable}
use Rattle.mmt_mux.specs.declared.ends.MuxEnd.{MuxEnd}
use Rattle.mmt_mux.specs.declared.ends.MuxEnd.TheVariants as ends
use Rattle.mmt_plan.specs.Files.{files_of}
use Rattle.mmt_send.specs.Files.{IsUnitShort, files_on}
use Rattle.mmt_trial.specs.Trials.{TrialEnds}
use Rattle.mmt_trial.specs.declared.trying.TrialEnd.{TrialEnd}
use Rattle.mmt_trial.specs.declared.trying.TrialEnd.TheVariants as trials

pub list-refused : (file : List ℕ → Option (List ℕ)) (plan list : List ℕ) (p : Programme) (end : MuxEnd) → sendable file plan ≡ Ok p → IsListAnswer (file list) (length (cast_of p).packets) (Err end) → IsTrialAnswer file plan list (Err end)
list-refused file plan list p (ends.Refused reason place) is a = inr (record { programme = p; sendable = is; refused = a })
list-refused file plan list p (ends.NotAdmitted refusal) is a = absurd a
list-refused file plan list p ends.ReadFault is a = tt
list-refused file plan list p ends.WriteFault is a = absurd a
list-refused file plan list p ends.OutOfMemory is a = tt

pub trial-ended : (file now : List ℕ → Option (List ℕ)) (plan list : List ℕ) (p : Programme) (cast : Cast) (tells : Bool) (faults counted : ℕ) (end : TrialEnd) → now ≡ file → files_of file p ≡ Ok tt → IsTrue tells
    → TrialEnds p tells now faults counted end → IsTrialAnswer file plan list (Err (trial_end cast end))
trial-ended file now plan list p cast tells faults counted trials.ReadFault same files told why = tt
trial-ended file now plan list p cast tells faults counted (trials.UnitShort unit size held) same files told why =
    absurd (never_short file p unit size held files (subst (λ (f : List ℕ → Option (List ℕ)). IsUnitShort p (files_on f p) unit size held) same (why told)))
trial-ended file now plan list p cast tells faults counted trials.OutOfMemory same files told why = tt
