-- What comes of the bytes of a plan.
use Rattle.std.proofs.Common.{◌≡◌, ℕ, Bool, true, false, List, Option, Some, None, Result, Ok, Err, IsUtf8, refl, sym, ap, subst}
use Rattle.std.proofs.lemmas.Str.{IsUtf8-from_is_utf8, is_utf8-from_IsUtf8}
use Rattle.std.specs.Str.{is_utf8}
use Rattle.serde_json.specs.Data.{Data}
use Rattle.serde_json.specs.Read.{read}
use Rattle.mmt_model.specs.declared.programmes.Programme.{Programme}
use Rattle.mmt_plan.specs.Plan.{bytes_of, json_in, json_of, programme_in, plan, top_place, IsOutcome, IsReadOf}
use Rattle.mmt_plan.specs.Reading.{◌>>=◌, IsAnswer}
use Rattle.mmt_plan.specs.declared.ends.PlanEnd.{PlanEnd}
use Rattle.mmt_plan.specs.declared.ends.PlanEnd.TheVariants.{Refused, ReadFault, OutOfMemory}
use Rattle.mmt_plan.specs.declared.ends.Reason.TheVariants.{NotJson}
use Rattle.mmt_plan.specs.declared.ends.Refusal.{Refusal}

pub json : (bytes : List ℕ) (d : Data) → IsUtf8 bytes → read bytes ≡ Some d → json_of bytes ≡ Ok d
unfolding json_of json_in
json bytes d text is = rw (is_utf8-from_IsUtf8 bytes text, is)

no_json_by : (bytes : List ℕ) (b : Bool) → is_utf8 bytes ≡ b → (IsUtf8 bytes → read bytes ≡ None) → json_of bytes ≡ Err (record { reason = NotJson; place = top_place })
unfolding json_of json_in
no_json_by bytes true is none = rw (is, none (IsUtf8-from_is_utf8 bytes is))
no_json_by bytes false is none = rw is

pub no_json : (bytes : List ℕ) → (IsUtf8 bytes → read bytes ≡ None) → json_of bytes ≡ Err (record { reason = NotJson; place = top_place })
no_json bytes none = no_json_by bytes (is_utf8 bytes) refl none

ended_so : (seen : Option (List ℕ)) (e : PlanEnd) → IsOutcome (bytes_of seen) (Err e) → IsOutcome (plan seen) (Err e)
unfolding plan
ended_so seen (Refused reason place) h = ap (λ r. r >>= programme_in) h
ended_so seen ReadFault h = tt
ended_so seen OutOfMemory h = tt

-- where there are no bytes, there is no programme
pub ended : (tells : Bool) (file : Option (List ℕ)) (e : PlanEnd) → IsReadOf {A = List ℕ} bytes_of tells file (Err e) → IsReadOf {A = Programme} plan tells file (Err e)
ended tells file e h = record { seen = h.seen; told = h.told; answer = ended_so h.seen e h.answer }

outcome : (reading : Result Programme Refusal) (r : Result Programme PlanEnd) → IsAnswer reading r → IsOutcome reading r
outcome reading (Ok p) h = h
outcome reading (Err (Refused reason place)) h = h
outcome reading (Err ReadFault) h = absurd h
outcome reading (Err OutOfMemory) h = h

of_bytes : (seen : Option (List ℕ)) (bytes : List ℕ) → bytes_of seen ≡ Ok bytes → plan seen ≡ programme_in bytes
unfolding plan
of_bytes seen bytes h = ap (λ r. r >>= programme_in) h

-- what the bytes are is what the file is
pub loaded : (tells : Bool) (file : Option (List ℕ)) (bytes : List ℕ) (r : Result Programme PlanEnd) → IsReadOf {A = List ℕ} bytes_of tells file (Ok bytes) → IsAnswer (programme_in bytes) r → IsReadOf {A = Programme} plan tells file r
loaded tells file bytes r h a = record { seen = h.seen; told = h.told; answer = subst (λ reading. IsOutcome reading r) (sym (of_bytes h.seen bytes h.answer)) (outcome (programme_in bytes) r a) }
