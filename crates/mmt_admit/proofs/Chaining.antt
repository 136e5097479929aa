-- The rules one after the other, and what a rule without a fault gives to a later one.
use Rattle.std.proofs.Common.{◌≡◌, ℕ, ◌+◌, ◌<◌, ◌≤◌, zero, suc, Bool, true, false, nat_le, nat_lt, arith, refl, ap, sym, ◌∙◌, ⊎_elim, Option, Some, None, is_some, List, length}
use Rattle.std.proofs.lemmas.Bool.{cases_eq, cases_lt, leb-true, ltb-true, true≢false}
use Rattle.mmt_admit.specs.Faults.{AreInOrder}
use Rattle.mmt_admit.specs.Faults.{as_fault}
use Rattle.mmt_admit.specs.declared.answers.NotAdmitted.{NotAdmitted}
use Rattle.mmt_model.specs.Admission.{Fault, fault_of_gap, fault_of_params, first_below, or_else, unless}
use Rattle.mmt_model.specs.Survival.{sent_at}
use Rattle.mmt_model.specs.declared.casts.Sent.{Sent}
use Rattle.mmt_model.specs.declared.programmes.Params.{Params}

-- a rule's fault, where there is one
pub found : (o : Option NotAdmitted) (a b : Option Fault) → as_fault o ≡ a → true ≡ is_some o → as_fault o ≡ or_else a b
found None a b e some = absurd (true≢false some)
found (Some r) a b e some = ap (λ x. or_else x b) e

-- else those of the later rules
pub none : (o : Option NotAdmitted) (a b x : Option Fault) → as_fault o ≡ a → false ≡ is_some o → x ≡ b → x ≡ or_else a b
none None a b x e fails h = h ∙ ap (λ y. or_else y b) e
none (Some r) a b x e fails h = absurd (true≢false (sym fails))

pub nothing : (o : Option NotAdmitted) (a : Option Fault) → as_fault o ≡ a → false ≡ is_some o → a ≡ None
nothing None a e fails = sym e
nothing (Some r) a e fails = absurd (true≢false (sym fails))

first-none : (a b : Option Fault) → or_else a b ≡ None → a ≡ None
first-none None b e = refl
first-none (Some r) b e = absurd cc

later-none : (a b : Option Fault) → or_else a b ≡ None → b ≡ None
later-none None b e = e
later-none (Some r) b e = absurd cc

unless-none : (t : Bool) (rule number found allowed : ℕ) → unless t rule number found allowed ≡ None → t ≡ true
unless-none true rule number found allowed e = refl
unless-none false rule number found allowed e = absurd cc

none-below : (f : ℕ → Option Fault) (n i : ℕ) → first_below f n ≡ None → i < n → f i ≡ None
unfolding first_below
none-below f zero i e l = absurd (omega arith)
none-below f (suc n) i e l =
    ⊎_elim
    (λ (same : i ≡ n). ap f same ∙ later-none (first_below f n) (f n) e)
    (λ (ne : i ≡ n → ⊥). none-below f n i (first-none (first_below f n) (f n) e) (⊎_elim (λ (lt : i < n). lt) (λ (ge : n ≤ i). absurd (ne (omega arith))) (cases_lt i n)))
    (cases_eq i n)

-- without a fault of rule A2 the timestamps do not fall
pub sorted-from : (packets : List Sent) → first_below (fault_of_gap packets) (length packets) ≡ None → AreInOrder packets
unfolding fault_of_gap
sorted-from packets e n l =
    let g = none-below (fault_of_gap packets) (length packets) (suc n) e l in
    leb-true (sent_at packets n) (sent_at packets (suc n)) (unless-none (nat_le (sent_at packets n) (sent_at packets (suc n))) 2 (suc n) (sent_at packets (suc n)) (sent_at packets n) (first-none _ _ g))

-- without a fault of rule A1 the window is not empty
pub window-from : (p : Params) → fault_of_params p ≡ None → 1 ≤ p.window
unfolding fault_of_params
window-from p e =
    let g : unless (nat_lt p.delay p.window) 1 1 p.window (p.delay + 1) ≡ None = first-none _ _ (later-none _ _ e) in
    omega (arith, ltb-true p.delay p.window (unless-none (nat_lt p.delay p.window) 1 1 p.window (p.delay + 1) g))
