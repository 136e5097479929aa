-- Reading a plan from left to right: a value, or the first reason why there is none (this project's rules).
use Rattle.std.specs.Prelude.{◌≡◌, ℕ, ◌+◌, List, [], ◌∷◌, Option, Some, None, Result, Ok, Err}
use Rattle.serde_json.specs.Data.{Data, Items, no_items, item}
use Rattle.mmt_plan.specs.declared.ends.PlanEnd.{PlanEnd}
use Rattle.mmt_plan.specs.declared.ends.PlanEnd.TheVariants.{Refused, ReadFault, OutOfMemory}
use Rattle.mmt_plan.specs.declared.ends.Refusal.{Refusal}

-- the next step of a reading, where the step before it was not refused
infixl 10 ◌>>=◌
abbrev pub ◌>>=◌ : {A B : Type 0} → Result A Refusal → (A → Result B Refusal) → Result B Refusal
(Ok x) >>= f = f x
(Err e) >>= f = Err e

-- what is read, seen by a function
abbrev pub ok_map : {A B E : Type 0} → (A → B) → Result A E → Result B E
ok_map f (Ok x) = Ok (f x)
ok_map f (Err e) = Err e

-- a value that must be there
abbrev pub or_refuse : {A : Type 0} → Refusal → Option A → Result A Refusal
or_refuse refusal (Some x) = Ok x
or_refuse refusal None = Err refusal

-- what each item of an array is read as, where the first has this number
unfoldable pub each : {A : Type 0} → (ℕ → Data → Result A Refusal) → ℕ → Items → Result (List A) Refusal
each read n no_items = Ok []
each read n (item d ds) = do
  x ← read n d
  xs ← each read (n + 1) ds
  Ok (x ∷ xs)

-- what each item of an array is read as, where a state goes from one to the next
unfoldable pub each_with : {S A : Type 0} → (S → ℕ → Data → Result (A × S) Refusal) → S → ℕ → Items → Result (List A × S) Refusal
each_with read state n no_items = Ok ([], state)
each_with read state n (item d ds) = do
  x ← read state n d
  xs ← each_with read x.1 (n + 1) ds
  Ok (x.0 ∷ xs.0, xs.1)

-- what a function answers is this reading, out of memory aside
abbrev pub IsAnswer : {A : Type 0} → Result A Refusal → Result A PlanEnd → Type 0
IsAnswer reading (Ok x) = reading ≡ Ok x
IsAnswer reading (Err (Refused reason place)) = reading ≡ Err (record { reason = reason; place = place })
IsAnswer reading (Err ReadFault) = ⊥
IsAnswer reading (Err OutOfMemory) = Unit {0}
