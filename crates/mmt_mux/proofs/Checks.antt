-- The checks one after the other.
use Rattle.std.proofs.Common.{◌≡◌, ℕ, inl, inr, List, Option, Some, None, Result, Ok, Err, refl, ap, sym, ◌∙◌, subst}
use Rattle.std.specs.Prelude.{slice_get}
use Rattle.std.specs.Option.{unwrap_or}
use Rattle.std.proofs.lemmas.Option.{unwrap_or-slice_get}
use Rattle.mmt_model.specs.Carrying.{no_sent_unit, sent_unit}
use Rattle.mmt_model.specs.declared.casts.Cast.{Cast}
use Rattle.mmt_model.specs.declared.casts.SentUnit.{SentUnit}
use Rattle.mmt_cast.specs.Casting.{cast_of}
use Rattle.mmt_cast.specs.Refusing.{Refusal as NoCast, refusal}
use Rattle.mmt_casting.specs.Ends.{IsEndOf, end_of}
use Rattle.mmt_casting.specs.declared.ends.CastEnd.{CastEnd}
use Rattle.mmt_model.specs.Admission.{Fault, fault}
use Rattle.mmt_model.specs.declared.programmes.Programme.{Programme}
use Rattle.mmt_mux.specs.Ending.{IsMuxAnswer, IsRead, cast_end, files_end, plan_end}
use Rattle.mmt_mux.specs.Sendable.{Faulty, Refused, Why, ◌>>=◌, cast_refusal, checked, has_cast, is_admitted, sendable}
use Rattle.mmt_plan.specs.Files.{IsFilesAnswer, files_of}
use Rattle.mmt_plan.specs.Plan.{IsOutcome, plan}
use Rattle.mmt_plan.specs.declared.ends.FilesEnd.{FilesEnd}
use Rattle.mmt_plan.specs.declared.ends.FilesEnd.TheVariants as files
use Rattle.mmt_plan.specs.declared.ends.PlanEnd.{PlanEnd}
use Rattle.mmt_plan.specs.declared.ends.PlanEnd.TheVariants as plans
use Rattle.mmt_plan.specs.declared.ends.Refusal.{Refusal}

-- what is checked of a programme
abbrev pub of_admission : Programme → Result Programme Why
of_admission p = is_admitted (fault (cast_of p)) >>= (λ _. Ok p)

abbrev pub of_files : (List ℕ → Option (List ℕ)) → Programme → Result Programme Why
of_files file p = checked (files_of file p) >>= (λ _. of_admission p)

abbrev pub of_cast : (List ℕ → Option (List ℕ)) → Programme → Result Programme Why
of_cast file p = has_cast (refusal p) >>= (λ _. of_files file p)

-- the same, from what each check answers
abbrev pub admission_then : Programme → Option Fault → Result Programme Why
admission_then p o = is_admitted o >>= (λ _. Ok p)

abbrev pub files_then : Programme → Result (Unit {0}) Refusal → Result Programme Why
files_then p r = checked r >>= (λ _. of_admission p)

abbrev pub cast_then : (List ℕ → Option (List ℕ)) → Programme → Option NoCast → Result Programme Why
cast_then file p o = has_cast o >>= (λ _. of_files file p)

abbrev pub plan_then : (List ℕ → Option (List ℕ)) → Result Programme Refusal → Result Programme Why
plan_then file r = checked r >>= of_cast file

-- what is admitted of what may be cast
abbrev pub with_admission : Result Programme Refusal → Result Programme Why
with_admission r = checked r >>= of_admission

pub steps : (file : List ℕ → Option (List ℕ)) (name : List ℕ) → sendable file name ≡ (checked (plan (file name)) >>= of_cast file)
unfolding sendable
steps file name = refl

no-plan : (file : List ℕ → Option (List ℕ)) (name : List ℕ) (r : Refusal) → plan (file name) ≡ Err r → sendable file name ≡ Err (Refused r)
no-plan file name r e = steps file name ∙ ap (λ (x : Result Programme Refusal). checked x >>= of_cast file) e

a-plan : (file : List ℕ → Option (List ℕ)) (name : List ℕ) (p : Programme) → plan (file name) ≡ Ok p → sendable file name ≡ of_cast file p
a-plan file name p e = steps file name ∙ ap (λ (x : Result Programme Refusal). checked x >>= of_cast file) e

no-cast : (file : List ℕ → Option (List ℕ)) (name : List ℕ) (p : Programme) (r : NoCast) → plan (file name) ≡ Ok p → refusal p ≡ Some r → sendable file name ≡ Err (Refused (cast_refusal r))
no-cast file name p r e n = a-plan file name p e ∙ ap (λ (x : Option NoCast). has_cast x >>= (λ _. of_files file p)) n

a-cast : (file : List ℕ → Option (List ℕ)) (name : List ℕ) (p : Programme) → plan (file name) ≡ Ok p → refusal p ≡ None → sendable file name ≡ of_files file p
a-cast file name p e n = a-plan file name p e ∙ ap (λ (x : Option NoCast). has_cast x >>= (λ _. of_files file p)) n

no-files : (file : List ℕ → Option (List ℕ)) (name : List ℕ) (p : Programme) (r : Refusal) → plan (file name) ≡ Ok p → refusal p ≡ None → files_of file p ≡ Err r → sendable file name ≡ Err (Refused r)
no-files file name p r e n f = a-cast file name p e n ∙ ap (λ (x : Result (Unit {0}) Refusal). checked x >>= (λ _. of_admission p)) f

has-files : (file : List ℕ → Option (List ℕ)) (name : List ℕ) (p : Programme) → IsRead file name p → refusal p ≡ None → sendable file name ≡ of_admission p
has-files file name p is n = a-cast file name p is.plan n ∙ ap (λ (x : Result (Unit {0}) Refusal). checked x >>= (λ _. of_admission p)) is.files

pub not_admitted : (file : List ℕ → Option (List ℕ)) (name : List ℕ) (p : Programme) (f : Fault) → IsRead file name p → refusal p ≡ None → fault (cast_of p) ≡ Some f → sendable file name ≡ Err (Faulty f)
not_admitted file name p f is n e = has-files file name p is n ∙ ap (λ (x : Option Fault). is_admitted x >>= (λ _. Ok p)) e

pub is_sendable : (file : List ℕ → Option (List ℕ)) (name : List ℕ) (p : Programme) → IsRead file name p → refusal p ≡ None → fault (cast_of p) ≡ None → sendable file name ≡ Ok p
is_sendable file name p is n e = has-files file name p is n ∙ ap (λ (x : Option Fault). is_admitted x >>= (λ _. Ok p)) e

-- ---- the ends of the steps

pub plan_ended : (file : List ℕ → Option (List ℕ)) (name : List ℕ) (end : PlanEnd) → IsOutcome (plan (file name)) (Err end) → IsMuxAnswer (sendable file name) (Err (plan_end end))
plan_ended file name (plans.Refused reason place) e = no-plan file name (record { reason = reason; place = place }) e
plan_ended file name plans.ReadFault e = tt
plan_ended file name plans.OutOfMemory e = tt

by-refusal : (file : List ℕ → Option (List ℕ)) (name : List ℕ) (p : Programme) (r : NoCast) → plan (file name) ≡ Ok p → refusal p ≡ Some r → IsMuxAnswer (sendable file name) (Err (cast_end (end_of r)))
unfolding end_of
by-refusal file name p (NoCast.TimeRange asset mpu au) e n = no-cast file name p (NoCast.TimeRange asset mpu au) e n
by-refusal file name p (NoCast.TableLong signal) e n = no-cast file name p (NoCast.TableLong signal) e n
by-refusal file name p (NoCast.CastLong packets) e n = no-cast file name p (NoCast.CastLong packets) e n

pub cast_ended : (file : List ℕ → Option (List ℕ)) (name : List ℕ) (p : Programme) (end : CastEnd) → plan (file name) ≡ Ok p → IsEndOf p end → IsMuxAnswer (sendable file name) (Err (cast_end end))
cast_ended file name p end e (inl none) = subst (λ x. IsMuxAnswer (sendable file name) (Err (cast_end x))) (sym none) tt
cast_ended file name p end e (inr r) = subst (λ x. IsMuxAnswer (sendable file name) (Err (cast_end x))) (sym r.2) (by-refusal file name p r.0 e r.1)

pub files_ended : (file : List ℕ → Option (List ℕ)) (name : List ℕ) (p : Programme) (end : FilesEnd) → plan (file name) ≡ Ok p → refusal p ≡ None → IsFilesAnswer (files_of file p) (Err end) → IsMuxAnswer (sendable file name) (Err (files_end end))
files_ended file name p (files.Refused reason place) e n f = no-files file name p (record { reason = reason; place = place }) e n f
files_ended file name p files.ReadFault e n f = tt

pub fault_here : (file now : List ℕ → Option (List ℕ)) (p : Programme) → now ≡ file → (end : FilesEnd) → IsFilesAnswer (files_of now p) (Err end) → IsFilesAnswer (files_of file p) (Err end)
fault_here file now p same end a = subst (λ f. IsFilesAnswer (files_of f p) (Err end)) same a

-- ---- the place of a unit

pub unit_found : (cast : Cast) (u : ℕ) (sent : SentUnit) → slice_get cast.units u ≡ Some sent → sent_unit cast u ≡ sent
unfolding sent_unit
unit_found cast u sent e = sym (unwrap_or-slice_get cast.units u no_sent_unit) ∙ ap (λ (o : Option SentUnit). unwrap_or o no_sent_unit) e

pub unit_absent : (cast : Cast) (u : ℕ) → slice_get cast.units u ≡ None → sent_unit cast u ≡ no_sent_unit
unfolding sent_unit
unit_absent cast u e = sym (unwrap_or-slice_get cast.units u no_sent_unit) ∙ ap (λ (o : Option SentUnit). unwrap_or o no_sent_unit) e
