-- What holds of the value of a reading, where there is one.
use Rattle.std.proofs.Common.{◌≡◌, Option, Some, None, Result, Ok, Err, sym, subst}
use Rattle.std.specs.Prelude.{⊤, IfOk}
use Rattle.mmt_plan.specs.Reading.{◌>>=◌, or_refuse, IsAnswer, ok_map}
use Rattle.mmt_plan.specs.declared.ends.PlanEnd.{PlanEnd}
use Rattle.mmt_plan.specs.declared.ends.Refusal.{Refusal}

abbrev pub Gives : {A : Type 0} → (A → Type 0) → Result A Refusal → Type 0
Gives P (Ok x) = P x
Gives P (Err e) = ⊤

abbrev pub Has : {A : Type 0} → (A → Type 0) → Option A → Type 0
Has P None = ⊤
Has P (Some x) = P x

pub after : {A B : Type 0} (Q : B → Type 0) (f : A → Result B Refusal) (P : A → Type 0) (r : Result A Refusal) → Gives P r → ((x : A) → P x → Gives Q (f x)) → Gives Q (r >>= f)
after Q f P (Ok x) h k = k x h
after Q f P (Err e) h k = tt

pub skip : {A B : Type 0} (Q : B → Type 0) (f : A → Result B Refusal) (r : Result A Refusal) → ((x : A) → Gives Q (f x)) → Gives Q (r >>= f)
skip Q f (Ok x) k = k x
skip Q f (Err e) k = tt

pub there : {A : Type 0} (P : A → Type 0) (e : Refusal) (o : Option A) → Has P o → Gives P (or_refuse e o)
there P e None h = tt
there P e (Some x) h = h

-- a function that answers a reading gives such a value
pub answered : {A : Type 0} (P : A → Type 0) (reading : Result A Refusal) (r : Result A PlanEnd) → Gives P reading → IsAnswer reading r → IfOk r P
answered P reading (Ok x) h is = subst (Gives P) is h
answered P reading (Err e) h is = tt

-- so does one whose value is seen by a function
pub seen : {A B : Type 0} (P : B → Type 0) (f : A → B) (reading : Result B Refusal) (r : Result A Refusal) → Gives P reading → ok_map f r ≡ reading → IfOk r (λ x. P (f x))
seen P f reading (Ok x) h is = subst (Gives P) (sym is) h
seen P f reading (Err e) h is = tt
