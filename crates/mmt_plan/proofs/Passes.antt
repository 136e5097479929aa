-- Items that are checked one by one.
use Rattle.std.proofs.Common.{◌≡◌, ℕ, ◌+◌, ◌<◌, ◌≤◌, Bool, IsTrue, List, [], ◌∷◌, length, get_or, drop, Option, Result, Ok, Err, refl, sym, ap, subst, ◌∙◌}
use Rattle.std.proofs.lemmas.List.{at_drop_more, at_drop_all}
use Rattle.mmt_plan.specs.Files.{IsFilesAnswer}
use Rattle.mmt_plan.specs.Plan.{Stays}
use Rattle.mmt_plan.specs.Reading.{◌>>=◌, IsAnswer}
use Rattle.mmt_plan.specs.Wholes.{each_checked}
use Rattle.mmt_plan.specs.declared.ends.FilesEnd.{FilesEnd}
use Rattle.mmt_plan.specs.declared.ends.FilesEnd.TheVariants as files
use Rattle.mmt_plan.specs.declared.ends.PlanEnd.{PlanEnd}
use Rattle.mmt_plan.specs.declared.ends.PlanEnd.TheVariants.{Refused, ReadFault, OutOfMemory}
use Rattle.mmt_plan.specs.declared.ends.Refusal.{Refusal}

-- N items pass
pub record HasPassed {A : Type 0} (check : ℕ → A → Result (Unit {0}) Refusal) (xs : List A) (n : ℕ) : Type 0 where
  pub is : each_checked check 0 xs ≡ each_checked check n (drop n xs)

module _ {A : Type 0} (check : ℕ → A → Result (Unit {0}) Refusal) (xs : List A) where
  pub begins : HasPassed check xs 0
  begins = record { is = refl }

  first_of : (n : ℕ) (x : A) (ys : List A) → each_checked check n (x ∷ ys) ≡ (check n x >>= λ _. each_checked check (n + 1) ys)
  unfolding each_checked
  first_of n x ys = refl

  none_of : (n : ℕ) → each_checked check n [] ≡ Ok tt
  unfolding each_checked
  none_of n = refl

  stepped : (n : ℕ) (x : A) → HasPassed check xs n → n < length xs → x ≡ get_or xs n x → each_checked check 0 xs ≡ (check n x >>= λ _. each_checked check (n + 1) (drop (n + 1) xs))
  stepped n x h lt is = h.is ∙ at_drop_more (each_checked check n) xs n x lt ∙ ap (λ y. each_checked check n (y ∷ drop (n + 1) xs)) (sym is) ∙ first_of n x (drop (n + 1) xs)

  pub goes_on : (n : ℕ) (x : A) → HasPassed check xs n → n < length xs → x ≡ get_or xs n x → check n x ≡ Ok tt → HasPassed check xs (n + 1)
  goes_on n x h lt is e = record { is = stepped n x h lt is ∙ ap (λ r. r >>= λ _. each_checked check (n + 1) (drop (n + 1) xs)) e }

  pub stops_so : (n : ℕ) (x : A) (e : PlanEnd) → HasPassed check xs n → n < length xs → x ≡ get_or xs n x → IsAnswer (check n x) (Err e) → IsAnswer (each_checked check 0 xs) (Err e)
  stops_so n x (Refused reason place) h lt is w = stepped n x h lt is ∙ ap (λ r. r >>= λ _. each_checked check (n + 1) (drop (n + 1) xs)) w
  stops_so n x ReadFault h lt is w = w
  stops_so n x OutOfMemory h lt is w = w

  pub ends : (n : ℕ) → HasPassed check xs n → length xs ≤ n → each_checked check 0 xs ≡ Ok tt
  ends n h le = h.is ∙ at_drop_all (each_checked check n) xs n le ∙ none_of n

-- the same of what a function that reads files answers
module _ {A : Type 0} (tells : Bool) (check : ℕ → A → Result (Unit {0}) Refusal) (xs : List A) where
  pub files_begin : IsTrue tells → HasPassed check xs 0
  files_begin t = begins check xs

  pub files_go_on : (n : ℕ) (x : A) → (IsTrue tells → HasPassed check xs n) → n < length xs → x ≡ get_or xs n x → (IsTrue tells → check n x ≡ Ok tt) → IsTrue tells → HasPassed check xs (n + 1)
  files_go_on n x h lt is e t = goes_on check xs n x (h t) lt is (e t)

  stopped : (n : ℕ) (x : A) (e : FilesEnd) → HasPassed check xs n → n < length xs → x ≡ get_or xs n x → IsFilesAnswer (check n x) (Err e) → IsFilesAnswer (each_checked check 0 xs) (Err e)
  stopped n x (files.Refused reason place) h lt is w = stepped check xs n x h lt is ∙ ap (λ r. r >>= λ _. each_checked check (n + 1) (drop (n + 1) xs)) w
  stopped n x files.ReadFault h lt is w = w

  pub files_stop : (n : ℕ) (x : A) (e : FilesEnd) → (IsTrue tells → HasPassed check xs n) → n < length xs → x ≡ get_or xs n x → (IsTrue tells → IsFilesAnswer (check n x) (Err e)) → IsTrue tells → IsFilesAnswer (each_checked check 0 xs) (Err e)
  files_stop n x e h lt is w t = stopped n x e (h t) lt is (w t)

  pub files_end : (n : ℕ) → (IsTrue tells → HasPassed check xs n) → length xs ≤ n → IsTrue tells → each_checked check 0 xs ≡ Ok tt
  files_end n h le t = ends check xs n (h t) le

-- what holds of the files of a shelf now holds of those before
pub before : {a b : Bool} {f g : List ℕ → Option (List ℕ)} {m n : ℕ} (P : (List ℕ → Option (List ℕ)) → Type 0) → Stays a b f g m n → (IsTrue b → P g) → IsTrue a → P f
before P x h t = subst P (x.files t) (h (subst (λ v. IsTrue v) (sym x.tells) t))
