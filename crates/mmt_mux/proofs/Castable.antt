-- The checks before a cast is admitted, one after the other.
use Rattle.std.proofs.Common.{◌≡◌, ℕ, inl, inr, List, Option, Some, None, Result, Ok, Err, refl, ap, sym, ◌∙◌, subst}
use Rattle.mmt_admit.specs.Faults.{fault_value}
use Rattle.mmt_cast.specs.Casting.{cast_of}
use Rattle.mmt_cast.specs.Refusing.{Refusal as NoCast, refusal}
use Rattle.mmt_casting.specs.Ends.{IsEndOf, end_of}
use Rattle.mmt_casting.specs.declared.ends.CastEnd.{CastEnd}
use Rattle.mmt_io.specs.History.{Event}
use Rattle.mmt_model.specs.Admission.{Fault, fault}
use Rattle.mmt_model.specs.declared.casts.Cast.{Cast}
use Rattle.mmt_model.specs.declared.programmes.Programme.{Programme}
use Rattle.mmt_mux.proofs.Checks.{admission_then, cast_then, files_then, is_sendable, not_admitted, plan_then, steps, with_admission}
use Rattle.mmt_mux.specs.Casts.{IsCastAnswer, bytes_if}
use Rattle.mmt_mux.specs.Ending.{IsMuxAnswer, IsRead, Muxes, cast_end, files_end, plan_end}
use Rattle.mmt_mux.specs.Pacing.{IsNotCast, castable, has_cast}
use Rattle.mmt_mux.specs.Sendable.{Why, cast_refusal, sendable, sent_bytes}
use Rattle.mmt_mux.specs.declared.ends.MuxEnd.{MuxEnd}
use Rattle.mmt_mux.specs.declared.ends.MuxEnd.TheVariants as ends
use Rattle.mmt_plan.specs.Files.{IsFilesAnswer, files_of}
use Rattle.mmt_plan.specs.Plan.{IsOutcome, plan}
use Rattle.mmt_plan.specs.Reading.{◌>>=◌}
use Rattle.mmt_plan.specs.declared.ends.FilesEnd.{FilesEnd}
use Rattle.mmt_plan.specs.declared.ends.FilesEnd.TheVariants as files
use Rattle.mmt_plan.specs.declared.ends.PlanEnd.{PlanEnd}
use Rattle.mmt_plan.specs.declared.ends.PlanEnd.TheVariants as plans
use Rattle.mmt_plan.specs.declared.ends.Refusal.{Refusal}
use Rattle.mmt_send.specs.Files.{files_on}
use Rattle.mmt_sent.specs.Stream.{stream}
use Rattle.mmt_tlv.specs.Framing.{joined}

-- what may be cast, from what each check answers
abbrev files_next : Programme → Result (Unit {0}) Refusal → Result Programme Refusal
files_next p r = r >>= (λ _. Ok p)

abbrev cast_next : (List ℕ → Option (List ℕ)) → Programme → Option NoCast → Result Programme Refusal
cast_next file p o = has_cast o >>= (λ _. files_next p (files_of file p))

abbrev plan_next : (List ℕ → Option (List ℕ)) → Result Programme Refusal → Result Programme Refusal
plan_next file r = r >>= (λ p. cast_next file p (refusal p))

by-steps : (file : List ℕ → Option (List ℕ)) (name : List ℕ) → castable file name ≡ plan_next file (plan (file name))
unfolding castable
by-steps file name = refl

-- ---- `mux` does the same checks

by-files : (p : Programme) (r : Result (Unit {0}) Refusal) → files_then p r ≡ with_admission (files_next p r)
by-files p (Ok u) = refl
by-files p (Err why) = refl

by-cast : (file : List ℕ → Option (List ℕ)) (p : Programme) (o : Option NoCast) → cast_then file p o ≡ with_admission (cast_next file p o)
by-cast file p None = by-files p (files_of file p)
by-cast file p (Some r) = refl

by-plan : (file : List ℕ → Option (List ℕ)) (r : Result Programme Refusal) → plan_then file r ≡ with_admission (plan_next file r)
by-plan file (Ok p) = by-cast file p (refusal p)
by-plan file (Err why) = refl

pub sendable_by : (file : List ℕ → Option (List ℕ)) (name : List ℕ) → sendable file name ≡ with_admission (castable file name)
sendable_by file name = steps file name ∙ (by-plan file (plan (file name)) ∙ ap with_admission (sym (by-steps file name)))

-- ---- what may be cast, and what not

pub is_castable : (file : List ℕ → Option (List ℕ)) (name : List ℕ) (p : Programme) → IsRead file name p → refusal p ≡ None → castable file name ≡ Ok p
is_castable file name p is n = by-steps file name ∙ (ap (plan_next file) is.plan ∙ (ap (cast_next file p) n ∙ ap (files_next p) is.files))

pub plan_not_cast : (file : List ℕ → Option (List ℕ)) (name : List ℕ) (end : PlanEnd) → IsOutcome (plan (file name)) (Err end) → IsNotCast (castable file name) (plan_end end)
plan_not_cast file name (plans.Refused reason place) e = by-steps file name ∙ ap (plan_next file) e
plan_not_cast file name plans.ReadFault e = tt
plan_not_cast file name plans.OutOfMemory e = tt

no-cast : (file : List ℕ → Option (List ℕ)) (name : List ℕ) (p : Programme) (r : NoCast) → plan (file name) ≡ Ok p → refusal p ≡ Some r → castable file name ≡ Err (cast_refusal r)
no-cast file name p r e n = by-steps file name ∙ (ap (plan_next file) e ∙ ap (cast_next file p) n)

by-refusal : (file : List ℕ → Option (List ℕ)) (name : List ℕ) (p : Programme) (r : NoCast) → plan (file name) ≡ Ok p → refusal p ≡ Some r → IsNotCast (castable file name) (cast_end (end_of r))
unfolding end_of
by-refusal file name p (NoCast.TimeRange asset mpu au) e n = no-cast file name p (NoCast.TimeRange asset mpu au) e n
by-refusal file name p (NoCast.TableLong signal) e n = no-cast file name p (NoCast.TableLong signal) e n
by-refusal file name p (NoCast.CastLong packets) e n = no-cast file name p (NoCast.CastLong packets) e n

pub cast_not_cast : (file : List ℕ → Option (List ℕ)) (name : List ℕ) (p : Programme) (end : CastEnd) → plan (file name) ≡ Ok p → IsEndOf p end → IsNotCast (castable file name) (cast_end end)
cast_not_cast file name p end e (inl none) = subst (λ x. IsNotCast (castable file name) (cast_end x)) (sym none) tt
cast_not_cast file name p end e (inr r) = subst (λ x. IsNotCast (castable file name) (cast_end x)) (sym r.2) (by-refusal file name p r.0 e r.1)

pub files_not_cast : (file : List ℕ → Option (List ℕ)) (name : List ℕ) (p : Programme) (end : FilesEnd) → plan (file name) ≡ Ok p → refusal p ≡ None → IsFilesAnswer (files_of file p) (Err end) → IsNotCast (castable file name) (files_end end)
files_not_cast file name p (files.Refused reason place) e n f = by-steps file name ∙ (ap (plan_next file) e ∙ (ap (cast_next file p) n ∙ ap (files_next p) f))
files_not_cast file name p files.ReadFault e n f = tt

-- ---- how `mux` ends

pub not_cast : (file : List ℕ → Option (List ℕ)) (name : List ℕ) (end : MuxEnd) → IsNotCast (castable file name) end → IsMuxAnswer (sendable file name) (Err end)
not_cast file name (ends.Refused reason place) e = sendable_by file name ∙ ap with_admission e
not_cast file name (ends.NotAdmitted r) e = absurd e
not_cast file name ends.ReadFault e = tt
not_cast file name ends.WriteFault e = tt
not_cast file name ends.OutOfMemory e = tt

pub cast_answered : (file : List ℕ → Option (List ℕ)) (name : List ℕ) (p : Programme) (cast : Cast) (r : Result (Unit {0}) MuxEnd) → IsRead file name p → refusal p ≡ None → cast ≡ cast_of p → IsCastAnswer (fault cast) r → IsMuxAnswer (sendable file name) r
cast_answered file name p cast (Ok x) is n e a = (p, is_sendable file name p is n (ap fault (sym e) ∙ a))
cast_answered file name p cast (Err (ends.Refused reason place)) is n e a = absurd a
cast_answered file name p cast (Err (ends.NotAdmitted r)) is n e a = not_admitted file name p (fault_value r) is n (ap fault (sym e) ∙ a)
cast_answered file name p cast (Err ends.ReadFault) is n e a = tt
cast_answered file name p cast (Err ends.WriteFault) is n e a = tt
cast_answered file name p cast (Err ends.OutOfMemory) is n e a = tt

bytes-are : (file : List ℕ → Option (List ℕ)) (p : Programme) (o : Option Fault) → bytes_if o (joined (stream p (cast_of p) (files_on file p))) ≡ sent_bytes file (admission_then p o)
bytes-are file p None = refl
bytes-are file p (Some f) = refl

pub cast_sent : (file now : List ℕ → Option (List ℕ)) (name : List ℕ) (p : Programme) (cast : Cast) (r : Result (Unit {0}) MuxEnd) (old new : List Event) → now ≡ file → IsRead file name p → refusal p ≡ None → cast ≡ cast_of p
    → Muxes (bytes_if (fault cast) (joined (stream p cast (files_on now p)))) r old new → Muxes (sent_bytes file (sendable file name)) r old new
cast_sent file now name p cast r old new same is n e m =
    let bytes : bytes_if (fault cast) (joined (stream p cast (files_on now p))) ≡ sent_bytes file (sendable file name) =
    ap (λ (f : List ℕ → Option (List ℕ)). bytes_if (fault cast) (joined (stream p cast (files_on f p)))) same
    ∙ (ap (λ (c : Cast). bytes_if (fault c) (joined (stream p c (files_on file p)))) e
    ∙ (bytes-are file p (fault (cast_of p)) ∙ ap (sent_bytes file) (sym (sendable_by file name ∙ ap with_admission (is_castable file name p is n))))) in
    subst (λ (bs : List ℕ). Muxes bs r old new) bytes m
