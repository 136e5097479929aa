-- A run of `pace` whose paced cast is admitted is done, or a call failed, or memory ran out.
use Rattle.std.proofs.Common.{◌≡◌, ℕ, List, Option, Some, None, Result, Ok, Err, ap, sym, ◌∙◌, subst}
use Rattle.mmt_cast.specs.Casting.{cast_of}
use Rattle.mmt_model.specs.Admission.{Fault, fault}
use Rattle.mmt_model.specs.declared.casts.Cast.{Cast}
use Rattle.mmt_model.specs.declared.programmes.Programme.{Programme}
use Rattle.mmt_mux.specs.Pacing.{IsAdmitted, IsDoneOrFailed, IsPaceAnswer, PaceIsComplete, castable}
use Rattle.mmt_mux.specs.declared.ends.MuxEnd.TheVariants as ends
use Rattle.mmt_mux.specs.declared.ends.PaceEnd.{PaceEnd}
use Rattle.mmt_mux.specs.declared.ends.PaceEnd.TheVariants as paces
use Rattle.mmt_pace.specs.Laws.{PacedCastsAreOne}
use Rattle.mmt_pace.specs.Pacing.{Paces}
use Rattle.mmt_plan.specs.declared.ends.Refusal.{Refusal}
use Rattle.mmt_slots.specs.declared.row.NoSchedule.TheVariants as schedules

same-ok : (r : Result Programme Refusal) (p q : Programme) → r ≡ Ok p → r ≡ Ok q → p ≡ q
same-ok r p q a b = let e : ◌≡◌ {A = Result Programme Refusal} (Ok p) (Ok q) = sym a ∙ b in cc

no-refusal : (r : Result Programme Refusal) (p : Programme) (why : Refusal) → r ≡ Ok p → r ≡ Err why → ⊥
no-refusal r p why a b = let e : ◌≡◌ {A = Result Programme Refusal} (Ok p) (Err why) = sym a ∙ b in absurd cc

no-fault : (o : Option Fault) (f : Fault) → o ≡ None → o ≡ Some f → ⊥
no-fault o f a b = let e : ◌≡◌ {A = Option Fault} None (Some f) = sym a ∙ b in absurd cc

pub complete : PacedCastsAreOne → PaceIsComplete
complete one file name step p cast (Ok x) is answer = tt
complete one file name step p cast (Err (paces.NotPaced from to jobs slots)) is answer =
    let same : answer.0 ≡ p = same-ok (castable file name) answer.0 p answer.1 is.is.plan in
    let counted : Paces (cast_of p) step (Err (schedules.Overfull from to jobs slots)) = subst (λ (q : Programme). Paces (cast_of q) step (Err (schedules.Overfull from to jobs slots))) same answer.2 in
    is.is.paced.1.2 from to counted.overfull
complete one file name step p cast (Err (paces.Ended (ends.Refused reason place))) is answer = no-refusal (castable file name) p _ is.is.plan answer
complete one file name step p cast (Err (paces.Ended (ends.NotAdmitted refusal))) is answer =
    let same : answer.0 ≡ p = same-ok (castable file name) answer.0 p answer.2.plan is.is.plan in
    let paced : Paces (cast_of p) step (Ok answer.1) = subst (λ (q : Programme). Paces (cast_of q) step (Ok answer.1)) same answer.2.paced in
    let its : answer.1 ≡ cast = one (cast_of p) step answer.1 cast paced is.is.paced in
    no-fault (fault cast) _ is.admitted (ap fault (sym its) ∙ answer.3)
complete one file name step p cast (Err (paces.Ended ends.ReadFault)) is answer = tt
complete one file name step p cast (Err (paces.Ended ends.WriteFault)) is answer = tt
complete one file name step p cast (Err (paces.Ended ends.OutOfMemory)) is answer = tt
