-- Where words that begin with `peak` are no command, by their places.
use Rattle.std.proofs.Common.{◌≡◌, inl, inr, ℕ, ◌+◌, ◌<◌, ◌≤◌, ◌^◌, List, [], ◌∷◌, length, drop, refl, ap, sym, subst, ◌∙◌, arith, decimal}
use Rattle.std.specs.Prelude.{codes}
use Rattle.std.proofs.lemmas.Fmt.{decimal_injective}
use Rattle.mmt_model.specs.declared.programmes.Flow.{Flow}
use Rattle.mmt_model.specs.declared.programmes.FlowChoice.{FlowChoice}
use Rattle.mmt_model.specs.declared.programmes.FlowChoice.TheVariants as flow
use Rattle.mmt_model.specs.declared.programmes.Params.{Params}
use Rattle.mmt_command.specs.Words.{IsWrongAt}
use Rattle.mmt_command.specs.Numbers.{NoOption}
use Rattle.mmt_command.specs.Flows.{flow_text, HasFlowRange, NoFlow}
use Rattle.mmt_command.specs.Commands.{Asks, IsCommand, HasRanges, HasChoiceRange, peak_words, flow_words}
use Rattle.mmt_command.specs.declared.words.Command.TheVariants as command
use Rattle.mmt_command.proofs.FlowTexts.{flow_text_once}
use Rattle.mmt_command.proofs.Names.{asked_peak}
use Rattle.mmt_command.proofs.Places.{word_of}
use Rattle.mmt_command.proofs.Wrong.{wrong_after}

-- the words of `peak`
peak_inside : (words : List (List ℕ)) → IsCommand (codes "peak" ∷ words) → (r : Params) × (choice : FlowChoice) × (codes "peak" ∷ words ≡ peak_words r (flow_words choice)) × HasRanges r × HasChoiceRange choice
peak_inside words c = let a = asked_peak words c in let p = a.2 in (a.1, a.0, p.0, p.1, p.2)

completed : (r : Params) → HasRanges r → IsCommand (peak_words r [])
completed r ranges = (command.Peak flow.Any r, (refl, ranges, tt))

params : ℕ → ℕ → ℕ → Params
params d w b = record { bound = b; window = w; delay = d }

begun : (d : ℕ) → 1 ≤ d → d < 2 ^ 24 → HasRanges (record { bound = 1; window = d + 1; delay = d })
begun d low high = record { delay = low; window_low = omega arith; window_high = omega arith; bound_low = omega arith; bound_high = omega arith }

pub no_delay : (words : List (List ℕ)) (index : ℕ) → NoOption (codes "--delay") 1 16777215 1 words index → IsWrongAt IsCommand (codes "peak" ∷ words) index
no_delay words index (inl (at, other)) =
    subst (λ i. IsWrongAt IsCommand (codes "peak" ∷ words) i) (sym at)
    (wrong_after IsCommand (codes "peak" ∷ []) words (_, completed (record { bound = 1; window = 1 + 1; delay = 1 }) (begun 1 (omega arith) (omega arith)))
    (λ e c. let p = peak_inside [] c in omega (arith, ap length p.2))
    (λ w more tail e c. let p = peak_inside (w ∷ tail) c in other more (e ∙ ap (λ x. x ∷ more) (word_of 1 _ _ p.2))))
no_delay words index (inr (at, rest, is, other)) =
    subst (λ i. IsWrongAt IsCommand (codes "peak" ∷ words) i) (sym at) (subst (λ x. IsWrongAt IsCommand (codes "peak" ∷ x) 2) (sym is)
    (wrong_after IsCommand (codes "peak" ∷ codes "--delay" ∷ []) rest (_, completed (record { bound = 1; window = 1 + 1; delay = 1 }) (begun 1 (omega arith) (omega arith)))
    (λ e c. let p = peak_inside (codes "--delay" ∷ []) c in omega (arith, ap length p.2))
    (λ w more tail e c. let p = peak_inside (codes "--delay" ∷ w ∷ tail) c in let r = p.3 in other p.0.delay more r.delay (omega arith) (e ∙ ap (λ x. x ∷ more) (word_of 2 _ _ p.2)))))

pub no_window : (d : ℕ) (words : List (List ℕ)) (index : ℕ) → 1 ≤ d → d < 2 ^ 24 → NoOption (codes "--window") (d + 1) 16777216 3 words index
    → IsWrongAt IsCommand (codes "peak" ∷ codes "--delay" ∷ decimal d ∷ words) index
no_window d words index low high (inl (at, other)) =
    subst (λ i. IsWrongAt IsCommand (codes "peak" ∷ codes "--delay" ∷ decimal d ∷ words) i) (sym at)
    (wrong_after IsCommand (codes "peak" ∷ codes "--delay" ∷ decimal d ∷ []) words (_, completed (record { bound = 1; window = d + 1; delay = d }) (begun d low high))
    (λ e c. let p = peak_inside (codes "--delay" ∷ decimal d ∷ []) c in omega (arith, ap length p.2))
    (λ w more tail e c. let p = peak_inside (codes "--delay" ∷ decimal d ∷ w ∷ tail) c in other more (e ∙ ap (λ x. x ∷ more) (word_of 3 _ _ p.2))))
no_window d words index low high (inr (at, rest, is, other)) =
    subst (λ i. IsWrongAt IsCommand (codes "peak" ∷ codes "--delay" ∷ decimal d ∷ words) i) (sym at) (subst (λ x. IsWrongAt IsCommand (codes "peak" ∷ codes "--delay" ∷ decimal d ∷ x) 4) (sym is)
    (wrong_after IsCommand (codes "peak" ∷ codes "--delay" ∷ decimal d ∷ codes "--window" ∷ []) rest (_, completed (record { bound = 1; window = d + 1; delay = d }) (begun d low high))
    (λ e c. let p = peak_inside (codes "--delay" ∷ decimal d ∷ codes "--window" ∷ []) c in omega (arith, ap length p.2))
    (λ w more tail e c.
    let p = peak_inside (codes "--delay" ∷ decimal d ∷ codes "--window" ∷ w ∷ tail) c in let r = p.3 in
    let same : d ≡ p.0.delay = decimal_injective d p.0.delay (omega arith) (omega arith) (word_of 2 _ _ p.2) in other p.0.window more (omega arith) (omega arith) (e ∙ ap (λ x. x ∷ more) (word_of 4 _ _ p.2)))))

pub no_bound : (d w : ℕ) (words : List (List ℕ)) (index : ℕ) → HasRanges (record { bound = 1; window = w; delay = d }) → NoOption (codes "--bound") 1 1073741824 5 words index
    → IsWrongAt IsCommand (codes "peak" ∷ codes "--delay" ∷ decimal d ∷ codes "--window" ∷ decimal w ∷ words) index
no_bound d w words index ranges (inl (at, other)) =
    subst (λ i. IsWrongAt IsCommand (codes "peak" ∷ codes "--delay" ∷ decimal d ∷ codes "--window" ∷ decimal w ∷ words) i) (sym at)
    (wrong_after IsCommand (codes "peak" ∷ codes "--delay" ∷ decimal d ∷ codes "--window" ∷ decimal w ∷ []) words (_, completed (record { bound = 1; window = w; delay = d }) ranges)
    (λ e c. let p = peak_inside (codes "--delay" ∷ decimal d ∷ codes "--window" ∷ decimal w ∷ []) c in omega (arith, ap length p.2))
    (λ v more tail e c. let p = peak_inside (codes "--delay" ∷ decimal d ∷ codes "--window" ∷ decimal w ∷ v ∷ tail) c in other more (e ∙ ap (λ x. x ∷ more) (word_of 5 _ _ p.2))))
no_bound d w words index ranges (inr (at, rest, is, other)) =
    subst (λ i. IsWrongAt IsCommand (codes "peak" ∷ codes "--delay" ∷ decimal d ∷ codes "--window" ∷ decimal w ∷ words) i) (sym at)
    (subst (λ x. IsWrongAt IsCommand (codes "peak" ∷ codes "--delay" ∷ decimal d ∷ codes "--window" ∷ decimal w ∷ x) 6) (sym is)
    (wrong_after IsCommand (codes "peak" ∷ codes "--delay" ∷ decimal d ∷ codes "--window" ∷ decimal w ∷ codes "--bound" ∷ []) rest (_, completed (record { bound = 1; window = w; delay = d }) ranges)
    (λ e c. let p = peak_inside (codes "--delay" ∷ decimal d ∷ codes "--window" ∷ decimal w ∷ codes "--bound" ∷ []) c in omega (arith, ap length p.2))
    (λ v more tail e c.
    let p = peak_inside (codes "--delay" ∷ decimal d ∷ codes "--window" ∷ decimal w ∷ codes "--bound" ∷ v ∷ tail) c in let r = p.3 in
    other p.0.bound more (omega arith) (omega arith) (e ∙ ap (λ x. x ∷ more) (word_of 6 _ _ p.2)))))

-- the words after the bound choose a flow
flow_inside : (r : Params) (words : List (List ℕ)) → IsCommand (peak_words r words) → (choice : FlowChoice) × (words ≡ flow_words choice) × HasChoiceRange choice
flow_inside r words c = let p = peak_inside (drop 1 (peak_words r words)) c in (p.1, ap (λ x. drop 7 x) p.2, p.4)

one_name : (choice : FlowChoice) (v : List ℕ) (tail : List (List ℕ)) → v ∷ tail ≡ flow_words choice → v ≡ codes "--flow"
one_name flow.Any v tail e = absurd (omega (arith, ap length e))
one_name (flow.One f) v tail e = word_of 0 _ _ e

not_alone : (choice : FlowChoice) (v : List ℕ) → v ∷ [] ≡ flow_words choice → ⊥
not_alone flow.Any v e = omega (arith, ap length e)
not_alone (flow.One f) v e = omega (arith, ap length e)

one_flow : (choice : FlowChoice) (u v : List ℕ) (tail : List (List ℕ)) → u ∷ v ∷ tail ≡ flow_words choice → HasChoiceRange choice → (f : Flow) × (v ≡ flow_text f) × HasFlowRange f × (tail ≡ [])
one_flow flow.Any u v tail e range = absurd (omega (arith, ap length e))
one_flow (flow.One f) u v tail e range = (f, word_of 1 _ _ e, range, ap (λ x. drop 2 x) e)

pub first_flow : Flow
first_flow = record { address = 0; port = 1 }

pub first_range : HasFlowRange first_flow
unfolding first_flow
first_range = record { address = omega arith; port_low = omega arith; port_high = omega arith; not_ntp = λ e. omega arith }

chosen : (r : Params) (f : Flow) → HasRanges r → HasFlowRange f → IsCommand (peak_words r (codes "--flow" ∷ flow_text f ∷ []))
chosen r f ranges range = (command.Peak (flow.One f) r, (refl, ranges, range))

pub no_flow : (r : Params) (words : List (List ℕ)) (index : ℕ) → HasRanges r → NoFlow words index → IsWrongAt IsCommand (peak_words r words) index
no_flow r words index ranges (inl (at, some, other)) =
    subst (λ i. IsWrongAt IsCommand (peak_words r words) i) (sym at)
    (wrong_after IsCommand (peak_words r []) words ([], completed r ranges) (λ e c. some e)
    (λ v more tail e c. let p = flow_inside r (v ∷ tail) c in other more (e ∙ ap (λ x. x ∷ more) (one_name p.0 v tail p.1))))
no_flow r words index ranges (inr (inl (at, rest, is, other))) =
    subst (λ i. IsWrongAt IsCommand (peak_words r words) i) (sym at) (subst (λ x. IsWrongAt IsCommand (peak_words r x) 8) (sym is)
    (wrong_after IsCommand (peak_words r (codes "--flow" ∷ [])) rest (flow_text first_flow ∷ [], chosen r first_flow ranges first_range)
    (λ e c. let p = flow_inside r (codes "--flow" ∷ []) c in not_alone p.0 (codes "--flow") p.1)
    (λ v more tail e c. let p = flow_inside r (codes "--flow" ∷ v ∷ tail) c in let q = one_flow p.0 (codes "--flow") v tail p.1 p.2 in other q.0 more q.2 (e ∙ ap (λ x. x ∷ more) q.1))))
no_flow r words index ranges (inr (inr (at, f, rest, is, range, some))) =
    subst (λ i. IsWrongAt IsCommand (peak_words r words) i) (sym at) (subst (λ x. IsWrongAt IsCommand (peak_words r x) 9) (sym is)
    (wrong_after IsCommand (peak_words r (codes "--flow" ∷ flow_text f ∷ [])) rest ([], chosen r f ranges range) (λ e c. some e)
    (λ v more tail e c. let p = flow_inside r (codes "--flow" ∷ flow_text f ∷ v ∷ tail) c in let q = one_flow p.0 (codes "--flow") (flow_text f) (v ∷ tail) p.1 p.2 in omega (arith, ap length q.3))))

same_choice : (a b : FlowChoice) → flow_words a ≡ flow_words b → HasChoiceRange a → HasChoiceRange b → a ≡ b
same_choice flow.Any flow.Any e x y = refl
same_choice flow.Any (flow.One g) e x y = absurd (omega (arith, ap length e))
same_choice (flow.One f) flow.Any e x y = absurd (omega (arith, ap length e))
same_choice (flow.One f) (flow.One g) e x y = ap (λ k. flow.One k) (flow_text_once f g x y (word_of 1 _ _ e))

same_params : (r s : Params) → r.bound ≡ s.bound → r.window ≡ s.window → r.delay ≡ s.delay → r ≡ s
same_params r s b w d =
    ap (λ x. record r { bound = x }) b ∙ (ap (λ x. record s { window = x; delay = r.delay }) w ∙ ap (λ x. record s { delay = x }) d)

-- the words ask for one flow and one set of parameters
pub peak_once : (f : FlowChoice) (r : Params) (g : FlowChoice) (s : Params) (words : List (List ℕ)) → Asks (command.Peak f r) words → Asks (command.Peak g s) words → command.Peak f r ≡ command.Peak g s
peak_once f r g s words x y =
    let p = x.1 in let q = y.1 in
    let e : peak_words r (flow_words f) ≡ peak_words s (flow_words g) = sym x.0 ∙ y.0 in
    let same : r ≡ s = same_params r s (decimal_injective r.bound s.bound (omega arith) (omega arith) (word_of 6 _ _ e)) (decimal_injective r.window s.window (omega arith) (omega arith) (word_of 4 _ _ e))
    (decimal_injective r.delay s.delay (omega arith) (omega arith) (word_of 2 _ _ e)) in
    ap (λ k. command.Peak k r) (same_choice f g (ap (λ x. drop 7 x) e) x.2 y.2) ∙ ap (λ k. command.Peak g k) same
