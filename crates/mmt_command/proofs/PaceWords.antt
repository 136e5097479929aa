-- Where words that begin with `pace` are no command, by their places.
use Rattle.std.proofs.Common.{◌≡◌, ℕ, ◌<◌, ◌≤◌, List, [], ◌∷◌, length, drop, get_or, refl, ap, sym, subst, ◌∙◌, arith, decimal}
use Rattle.std.specs.Prelude.{codes}
use Rattle.std.proofs.lemmas.Fmt.{decimal_injective}
use Rattle.mmt_command.specs.Words.{IsWrongAt}
use Rattle.mmt_command.specs.Numbers.{NoOption}
use Rattle.mmt_command.specs.Commands.{Asks, IsCommand, pace_words}
use Rattle.mmt_command.specs.declared.words.Command.TheVariants as command
use Rattle.mmt_command.proofs.Names.{asked_pace}
use Rattle.mmt_command.proofs.OptionPlaces.{GoesOn, no_option}
use Rattle.mmt_command.proofs.Places.{word_of}
use Rattle.mmt_command.proofs.Wrong.{wrong_after}

whole : (name : List ℕ) (step : ℕ) → 1 ≤ step → step ≤ 16777215 → IsCommand (pace_words name step)
whole name step low high = (command.Pace step, (name, refl, low, omega arith))

pace_alone : IsWrongAt IsCommand (codes "pace" ∷ []) 1
pace_alone =
    wrong_after IsCommand (codes "pace" ∷ []) [] (_, whole [] 1 (omega arith) (omega arith)) (λ e c. (let is = asked_pace [] c in omega (arith, ap length is.1.1))) (λ w more tail e c. omega (arith, ap length e))

pub pace_short : (words : List (List ℕ)) → words ≡ codes "pace" ∷ drop 1 words → length words < 2 → IsWrongAt IsCommand words 1
pace_short [] e l = absurd (omega (arith, ap length e))
pace_short (a ∷ []) e l = subst (λ x. IsWrongAt IsCommand x 1) (sym e) pace_alone
pace_short (a ∷ b ∷ more) e l = absurd (omega arith)

-- the words from the plan's name on
pub with_plan : (words : List (List ℕ)) → words ≡ codes "pace" ∷ drop 1 words → 2 ≤ length words → words ≡ codes "pace" ∷ get_or words 1 [] ∷ drop 2 words
with_plan [] e l = absurd (omega arith)
with_plan (a ∷ []) e l = absurd (omega arith)
with_plan (a ∷ b ∷ more) e l = e

step_next : (name : List ℕ) → GoesOn (codes "pace" ∷ name ∷ []) (codes "--step") 1 16777215
step_next name = record {
  begins = (_, whole name 1 (omega arith) (omega arith));
  not_yet = λ c. let p = asked_pace (name ∷ []) c in omega (arith, ap length p.1.1);
  half = λ c. let p = asked_pace (name ∷ codes "--step" ∷ []) c in omega (arith, ap length p.1.1);
  named = λ w tail c. let p = asked_pace (name ∷ w ∷ tail) c in word_of 2 _ _ p.1.1;
  valued = λ w tail c. let p = asked_pace (name ∷ codes "--step" ∷ w ∷ tail) c in let r = p.1.3 in (p.0, p.1.2, omega arith, word_of 3 _ _ p.1.1);
}

pub no_step : (words : List (List ℕ)) (index : ℕ) → words ≡ codes "pace" ∷ drop 1 words → 2 ≤ length words → NoOption (codes "--step") 1 16777215 2 (drop 2 words) index → IsWrongAt IsCommand words index
no_step words index e l missing =
    subst (λ x. IsWrongAt IsCommand x index) (sym (with_plan words e l)) (no_option (codes "pace" ∷ get_or words 1 [] ∷ []) (codes "--step") 1 16777215 2 (drop 2 words) index (step_next (get_or words 1 [])) refl missing)

nothing_left : (words : List (List ℕ)) → length words ≡ 0 → words ≡ []
nothing_left [] l = refl
nothing_left (a ∷ more) l = absurd (omega arith)

-- the words have the plan's name and the step
pub record HasStep (words : List (List ℕ)) (step : ℕ) : Type 0 where
  pub name : words ≡ codes "pace" ∷ drop 1 words
  pub plan : 2 ≤ length words
  pub option : drop 2 words ≡ codes "--step" ∷ decimal step ∷ drop 4 words
  pub low : 1 ≤ step
  pub high : step ≤ 16777215

spelled : (words : List (List ℕ)) (step : ℕ) → HasStep words step → words ≡ codes "pace" ∷ get_or words 1 [] ∷ codes "--step" ∷ decimal step ∷ drop 4 words
spelled words step has = with_plan words has.name has.plan ∙ ap (λ x. codes "pace" ∷ get_or words 1 [] ∷ x) has.option

pub pace_given : (words : List (List ℕ)) (step : ℕ) → HasStep words step → length words ≡ 4 → Asks (command.Pace step) words
pace_given words step has l =
    let s = spelled words step has in let high = has.high in
    (get_or words 1 [], s ∙ ap (λ x. codes "pace" ∷ get_or words 1 [] ∷ codes "--step" ∷ decimal step ∷ x) (nothing_left (drop 4 words) (omega (arith, l, ap length s))), has.low, omega arith)

pub pace_long : (words : List (List ℕ)) (step : ℕ) → HasStep words step → (length words ≡ 4 → ⊥) → IsWrongAt IsCommand words 4
pace_long words step has l =
    let s = spelled words step has in
    let name = get_or words 1 [] in
    subst (λ x. IsWrongAt IsCommand x 4) (sym s)
    (wrong_after IsCommand (pace_words name step) (drop 4 words) ([], whole name step has.low has.high) (λ none c. l (ap length (s ∙ ap (λ x. codes "pace" ∷ name ∷ codes "--step" ∷ decimal step ∷ x) none)))
    (λ w more tail e c. let p = asked_pace (name ∷ codes "--step" ∷ decimal step ∷ w ∷ tail) c in omega (arith, ap length p.1.1)))

pub pace_once : (a b : ℕ) (words : List (List ℕ)) → Asks (command.Pace a) words → Asks (command.Pace b) words → a ≡ b
pace_once a b words x y = let ra = x.3 in let rb = y.3 in decimal_injective a b (omega arith) (omega arith) (word_of 3 _ _ (sym x.1 ∙ y.1))
