-- The file of a plan, read piece by piece.
use Rattle.std.proofs.Common.{◌≡◌, ℕ, ◌<◌, ◌≤◌, Bool, true, false, IsTrue, List, [], ◌++◌, length, take, drop, Option, Some, None, Result, Ok, Err, refl, sym, ap, subst, ◌∙◌, arith, append_assoc, append-nil, length-append}
use Rattle.std.proofs.lemmas.Bool.Decides.{nat_tests}
use Rattle.std.proofs.lemmas.List.{nil_from_length, take-append-drop}
use Rattle.std.proofs.Math.Seq.{drop-append_seam}
use Rattle.mmt_io.specs.Port.{Rose}
use Rattle.mmt_io.specs.Shelf.{Shows}
use Rattle.mmt_io.specs.declared.shelf.ShelfFault.{ShelfFault}
use Rattle.mmt_io.specs.declared.shelf.ShelfFault.TheVariants.{Absent}
use Rattle.mmt_plan.specs.Plan.{bytes_of, top_place, IsReadOf, Stays}
use Rattle.mmt_plan.specs.declared.ends.PlanEnd.TheVariants.{Refused, ReadFault, OutOfMemory}
use Rattle.mmt_plan.specs.declared.ends.Reason.TheVariants.{PlanAbsent, PlanLong}

-- the bytes stand at the front of a file, or there is none and they are none
abbrev pub IsFront : Option (List ℕ) → List ℕ → Type 0
IsFront None bytes = bytes ≡ []
IsFront (Some all) bytes = (rest : List ℕ) × (all ≡ bytes ++ rest)

-- so it is with the file of a shelf that tells
pub record HasFront (tells : Bool) (file : Option (List ℕ)) (bytes : List ℕ) : Type 0 where
  pub is : IsTrue tells → IsFront file bytes

empty_front : (file : Option (List ℕ)) → IsFront file []
empty_front None = refl
empty_front (Some all) = (all, refl)

pub begins : (tells : Bool) (file : Option (List ℕ)) → HasFront tells file []
begins tells file = record { is = λ _. empty_front file }

behind : (bytes rest all : List ℕ) → all ≡ bytes ++ rest → drop (length bytes) all ≡ rest
behind bytes rest all e = ap (λ xs. drop (length bytes) xs) e ∙ drop-append_seam bytes rest

longer : (file : Option (List ℕ)) (bytes buf : List ℕ) (n : ℕ) → IsFront file bytes → Shows file (length bytes) (Ok n) buf → IsFront file (bytes ++ take n buf)
longer None bytes buf n front shows = absurd shows
longer (Some all) bytes buf n front shows =
    let piece : take n buf ≡ take n front.0 = shows.1 ∙ ap (λ xs. take n xs) (behind bytes front.0 all front.1) in
    (drop n front.0, front.1 ∙ ap (λ xs. bytes ++ xs) (sym (take-append-drop n front.0)) ∙ sym (append_assoc bytes (take n front.0) (drop n front.0)) ∙ ap (λ xs. (bytes ++ xs) ++ drop n front.0) (sym piece))

pub goes_on : (tells : Bool) (file : Option (List ℕ)) (bytes buf : List ℕ) (n : ℕ) → HasFront tells file bytes → (IsTrue tells → Shows file (length bytes) (Ok n) buf) → HasFront tells file (bytes ++ take n buf)
goes_on tells file bytes buf n h shows = record { is = λ t. longer file bytes buf n (h.is t) (shows t) }

short : (bytes : List ℕ) → length bytes ≤ 16777216 → bytes_of (Some bytes) ≡ Ok bytes
unfolding bytes_of
short bytes le = grind (arith, nat_tests)

long : (bytes : List ℕ) → 16777216 < length bytes → bytes_of (Some bytes) ≡ Err (record { reason = PlanLong; place = top_place })
unfolding bytes_of
long bytes lt = grind (arith, nat_tests)

none : bytes_of None ≡ Err (record { reason = PlanAbsent; place = top_place })
unfolding bytes_of
none = refl

at_end : (file : Option (List ℕ)) (bytes buf : List ℕ) → IsFront file bytes → Shows file (length bytes) (Ok 0) buf → 0 < length buf → length bytes ≤ 16777216 → bytes_of file ≡ Ok bytes
at_end None bytes buf front shows room le = absurd shows
at_end (Some all) bytes buf front shows room le =
    let left : length (drop (length bytes) all) ≡ length front.0 = ap length (behind bytes front.0 all front.1) in
    let same : all ≡ bytes = front.1 ∙ ap (λ xs. bytes ++ xs) (nil_from_length front.0 (omega (arith, shows.0))) ∙ append-nil bytes in
    ap (λ xs. bytes_of (Some xs)) same ∙ short bytes le

pub whole : (tells : Bool) (file : Option (List ℕ)) (bytes buf : List ℕ) → HasFront tells file bytes → (IsTrue tells → Shows file (length bytes) (Ok 0) buf) → 0 < length buf → length bytes ≤ 16777216 → IsReadOf bytes_of tells file (Ok bytes)
whole true file bytes buf h shows room le = record { seen = file; told = λ _. refl; answer = at_end file bytes buf (h.is refl) (shows refl) room le }
whole false file bytes buf h shows room le = record { seen = Some bytes; told = λ t. cc; answer = short bytes le }

not_there : (file : Option (List ℕ)) (at : ℕ) (buf : List ℕ) → Shows file at (Err Absent) buf → bytes_of file ≡ Err (record { reason = PlanAbsent; place = top_place })
not_there None at buf shows = none
not_there (Some all) at buf shows = absurd shows

pub absent : (tells : Bool) (file : Option (List ℕ)) (at : ℕ) (buf : List ℕ) → (IsTrue tells → Shows file at (Err Absent) buf) → IsReadOf {A = List ℕ} bytes_of tells file (Err (Refused PlanAbsent top_place))
absent true file at buf shows = record { seen = file; told = λ _. refl; answer = not_there file at buf (shows refl) }
absent false file at buf shows = record { seen = None; told = λ t. cc; answer = none }

past : (file : Option (List ℕ)) (bytes : List ℕ) → IsFront file bytes → 16777216 < length bytes → bytes_of file ≡ Err (record { reason = PlanLong; place = top_place })
past None bytes front lt = absurd (omega (arith, ap length front))
past (Some all) bytes front lt = long all (omega (arith, ap length front.1, length-append bytes front.0))

pub too_long : (tells : Bool) (file : Option (List ℕ)) (bytes : List ℕ) → HasFront tells file bytes → 16777216 < length bytes → IsReadOf {A = List ℕ} bytes_of tells file (Err (Refused PlanLong top_place))
too_long true file bytes h lt = record { seen = file; told = λ _. refl; answer = past file bytes (h.is refl) lt }
too_long false file bytes h lt = record { seen = Some bytes; told = λ t. cc; answer = long bytes lt }

pub ended : (tells : Bool) (file : Option (List ℕ)) → IsReadOf {A = List ℕ} bytes_of tells file (Err OutOfMemory)
ended tells file = record { seen = file; told = λ _. refl; answer = tt }

pub failed : (tells : Bool) (file : Option (List ℕ)) → IsReadOf {A = List ℕ} bytes_of tells file (Err ReadFault)
failed tells file = record { seen = file; told = λ _. refl; answer = tt }

pub stays : {tells : Bool} {file : List ℕ → Option (List ℕ)} {faults : ℕ} → Stays tells tells file file faults faults
stays = record { tells = refl; files = λ _. refl; later = omega arith }

pub stays_on : {a b c : Bool} {f g h : List ℕ → Option (List ℕ)} {m n o : ℕ} → Stays a b f g m n → c ≡ b → (IsTrue b → h ≡ g) → n ≤ o → Stays a c f h m o
stays_on {a} {b} x tells files later = record {
  tells = tells ∙ x.tells;
  files = λ t. files (subst (λ v. IsTrue v) (sym x.tells) t) ∙ x.files t;
  later = let l = x.later in omega arith;
}

pub rose_since : (m n o : ℕ) → m ≤ n → Rose n o → Rose m o
rose_since m n o le rose = omega arith

-- what a shelf shows now is what it showed before
pub shown : {a b : Bool} {f g : List ℕ → Option (List ℕ)} {m n : ℕ} (name : List ℕ) (at : ℕ) (r : Result ℕ ShelfFault) (buf : List ℕ) → Stays a b f g m n → (IsTrue b → Shows (g name) at r buf) → IsTrue a → Shows (f name) at r buf
shown {a} {b} {f} {g} name at r buf x shows t =
    subst (λ (h : List ℕ → Option (List ℕ)). Shows (h name) at r buf) (x.files t) (shows (subst (λ v. IsTrue v) (sym x.tells) t))
