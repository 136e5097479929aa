-- Walking over numbers to the first fault.
use Rattle.std.proofs.Common.{◌≡◌, ℕ, ◌+◌, ◌-◌, ◌<◌, ◌≤◌, zero, suc, true, false, nat_le, nat_lt, arith, refl, ap, ap₂, sym, ◌∙◌, ⊎_elim, Option, Some, None, is_some, List}
use Rattle.std.proofs.lemmas.Bool.{cases_eq, cases_lt, true≢false}
use Rattle.mmt_admit.specs.Faults.{as_fault, fault_value}
use Rattle.mmt_admit.specs.declared.answers.NotAdmitted.{NotAdmitted}
use Rattle.mmt_model.specs.Admission.{Fault, fault_of_gap, first_below, or_else, unless}
use Rattle.mmt_model.specs.Survival.{sent_at}
use Rattle.mmt_model.specs.declared.casts.Sent.{Sent}

-- no fault so far, and none here
pub walk-passed : (f : ℕ → Option Fault) (i : ℕ) (o : Option NotAdmitted) → first_below f i ≡ None → as_fault o ≡ f i → false ≡ is_some o → first_below f (i + 1) ≡ None
unfolding first_below
walk-passed f i None before is fails =
    let s : i + 1 ≡ suc i = omega arith in
    ap (first_below f) s ∙ (ap (λ a. or_else a (f i)) before ∙ sym is)
walk-passed f i (Some r) before is fails = absurd (true≢false (sym fails))

-- no fault so far, and one here
first-here : (f : ℕ → Option Fault) (i n : ℕ) (r : Fault) → first_below f i ≡ None → Some r ≡ f i → i < n → first_below f n ≡ Some r
unfolding first_below
first-here f i zero r before is l = absurd (omega arith)
first-here f i (suc n) r before is l =
    ⊎_elim
    (λ (e : i ≡ n). ap₂ or_else (sym (ap (first_below f) e) ∙ before) (sym (is ∙ ap f e)))
    (λ (ne : i ≡ n → ⊥). ap (λ a. or_else a (f n)) (first-here f i n r before is (⊎_elim (λ (lt : i < n). lt) (λ (ge : n ≤ i). absurd (ne (omega arith))) (cases_lt i n))))
    (cases_eq i n)

pub walk-found : (f : ℕ → Option Fault) (i n : ℕ) (o : Option NotAdmitted) → first_below f i ≡ None → as_fault o ≡ f i → true ≡ is_some o → i < n → as_fault o ≡ first_below f n
walk-found f i n None before is some l = absurd (true≢false some)
walk-found f i n (Some r) before is some l = sym (first-here f i n (fault_value r) before is l)

pub walk-begins : (f : ℕ → Option Fault) → first_below f 0 ≡ None
unfolding first_below
walk-begins f = refl

-- one more place
pub walk-more : (f : ℕ → Option Fault) (n : ℕ) (a x : Option Fault) → a ≡ first_below f n → x ≡ or_else a (f n) → x ≡ first_below f (n + 1)
unfolding first_below
walk-more f n a x before here =
    let s : n + 1 ≡ suc n = omega arith in
    here ∙ (ap (λ b. or_else b (f n)) before ∙ sym (ap (first_below f) s))

-- rule A2 by the two timestamps
pub gap-first : (packets : List Sent) (n : ℕ) → n ≡ 0 → None ≡ fault_of_gap packets n
unfolding fault_of_gap
gap-first packets zero e = refl
gap-first packets (suc n) e = absurd (omega arith)

pub gap-later : (packets : List Sent) (n before at : ℕ) → 0 < n → before ≡ sent_at packets (n - 1) → at ≡ sent_at packets n
    → or_else (unless (nat_le before at) 2 n at before) (unless (nat_lt at (before + 1073741824)) 2 n at (before + 1073741823)) ≡ fault_of_gap packets n
unfolding fault_of_gap
gap-later packets zero before at l eb ea = absurd (omega arith)
gap-later packets (suc n) before at l eb ea =
    let s : suc n - 1 ≡ n = omega arith in
    let b : before ≡ sent_at packets n = eb ∙ ap (sent_at packets) s in
    ap₂ (λ b a. or_else (unless (nat_le b a) 2 (suc n) a b) (unless (nat_lt a (b + 1073741824)) 2 (suc n) a (b + 1073741823))) b ea
