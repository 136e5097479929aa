-- Where words that begin with `take` are no command.
use Rattle.std.proofs.Common.{◌≡◌, ℕ, ◌+◌, List, [], ◌∷◌, ◌++◌, length, get_or, drop, ap, sym, subst, ◌∙◌, arith, append_assoc}
use Rattle.std.specs.Prelude.{codes}
use Rattle.std.specs.List.{All, Contains, flat_map}
use Rattle.std.proofs.lemmas.List.{append-nil, length_push}
use Rattle.mmt_command.specs.Words.{BeginsCommand, IsWrongAt}
use Rattle.mmt_command.specs.TakeWords.{TakeOption, bound, chosen, sample_base, timescale, assume, option_name, option_value, option_words, take_words, HasOptionRange, AsksTake}
use Rattle.mmt_command.specs.Reading.{HasGiven, HasRead, taken}
use Rattle.mmt_command.specs.Commands.{IsCommand}
use Rattle.mmt_command.specs.declared.options.Given.{Given}
use Rattle.mmt_command.specs.declared.take_words.TakeOptions.{TakeOptions}
use Rattle.mmt_command.specs.declared.words.Command.TheVariants as command
use Rattle.mmt_command.proofs.Names.{asked_take}
use Rattle.mmt_command.proofs.OptionWords.{rest_of, words_more, GoesOn, goes_from, not_again}
use Rattle.mmt_command.proofs.TakeGiven.{asked}
use Rattle.mmt_command.proofs.Wrong.{wrong_after}

take_inside : (words : List (List ℕ)) → IsCommand (codes "take" ∷ words) → (o : TakeOptions) × AsksTake o (codes "take" ∷ words)
take_inside words c = asked_take words c

goes_on : (os : List TakeOption) (w : List ℕ) (tail : List (List ℕ)) → All HasOptionRange os → IsCommand (take_words os ++ w ∷ tail) → GoesOn os w tail
goes_on os w tail x c =
    let t = take_inside (flat_map option_words os ++ w ∷ tail) c in
    let a : AsksTake t.0 (take_words os ++ w ∷ tail) = t.1 in
    let r = rest_of os a.options (w ∷ tail) x a.ranges (ap (λ l. drop 1 l) a.spelled) in
    goes_from os a.options r.0 w tail a.ranges a.different r.1 r.2

-- a word after whole options with which no command goes on
wrong_after_options : (given : Given) (os : List TakeOption) (rest : List (List ℕ)) → HasGiven given os → (rest ≡ [] → ⊥) → ((w : List ℕ) (more tail : List (List ℕ)) → rest ≡ w ∷ more → GoesOn os w tail → ⊥)
    → IsWrongAt IsCommand (take_words os ++ rest) (length (take_words os))
wrong_after_options given os rest h some other =
    wrong_after IsCommand (take_words os) rest ([], (command.Take (taken given), asked given os _ h (append-nil (take_words os)))) (λ e c. some e)
    (λ w more tail e c. other w more tail e (goes_on os w tail h.ranges c))

pub wrong_name : (given : Given) (words : List (List ℕ)) (at : ℕ) (r : HasRead given words at) → (drop at words ≡ [] → ⊥) → ((w : List ℕ) (more tail : List (List ℕ)) → drop at words ≡ w ∷ more → GoesOn r.options w tail → ⊥)
    → IsWrongAt IsCommand words at
wrong_name given words at r some other =
    subst (λ i. IsWrongAt IsCommand words i) (sym r.place)
    (subst (λ w. IsWrongAt IsCommand w (length (take_words r.options))) (sym r.spelled) (wrong_after_options given r.options (drop at words) r.values some other))

-- the name of an option that has been given
pub wrong_again : (given : Given) (words : List (List ℕ)) (at : ℕ) (name : List ℕ) (o : TakeOption) (r : HasRead given words at) → drop at words ≡ name ∷ drop (at + 1) words → name ≡ option_name o → Contains r.options o → IsWrongAt IsCommand words at
wrong_again given words at name o r is named has = wrong_name given words at r (λ e. omega (arith, ap length (sym is ∙ e)))
    (λ w more tail e g. not_again r.options g.options o g.option g.different has (sym named ∙ (ap (λ l. get_or l 0 []) (sym is ∙ e) ∙ g.name)))

-- the value of an option whose name is there
begins_value : (more : Given) (os : List TakeOption) (o : TakeOption) → HasGiven more (os ++ o ∷ []) → BeginsCommand IsCommand (take_words os ++ option_name o ∷ [])
begins_value more os o h =
    (option_value o ∷ [], (command.Take (taken more), asked more (os ++ o ∷ []) _ h (append_assoc (take_words os) (option_name o ∷ []) (option_value o ∷ []) ∙ sym (words_more os o))))

wrong_after_name : (more : Given) (os : List TakeOption) (o : TakeOption) (rest : List (List ℕ)) → HasGiven more (os ++ o ∷ []) → All HasOptionRange os
    → ((q : TakeOption) (others : List (List ℕ)) → option_name o ≡ option_name q → HasOptionRange q → rest ≡ option_value q ∷ others → ⊥) → IsWrongAt IsCommand ((take_words os ++ option_name o ∷ []) ++ rest) (length (take_words os ++ option_name o ∷ []))
wrong_after_name more os o rest h x other =
    wrong_after IsCommand (take_words os ++ option_name o ∷ []) rest (begins_value more os o h)
    (λ e c. let g = goes_on os (option_name o) [] x c in omega (arith, ap length g.value))
    (λ w others tail e c.
    let g = goes_on os (option_name o) (w ∷ tail) x (subst (λ l. IsCommand l) (append_assoc (take_words os) (option_name o ∷ []) (w ∷ tail)) c) in
    other g.option others g.name g.range (e ∙ ap (λ k. k ∷ others) (ap (λ l. get_or l 0 []) g.value)))

pub wrong_value : (given more : Given) (words : List (List ℕ)) (at : ℕ) (o : TakeOption) (r : HasRead given words at) → HasGiven more (r.options ++ o ∷ []) → drop at words ≡ option_name o ∷ drop (at + 1) words
    → ((q : TakeOption) (others : List (List ℕ)) → option_name o ≡ option_name q → HasOptionRange q → drop (at + 1) words ≡ option_value q ∷ others → ⊥) → IsWrongAt IsCommand words (at + 1)
wrong_value given more words at o r h is other =
    let place : length (take_words r.options ++ option_name o ∷ []) ≡ at + 1 = length_push (take_words r.options) (option_name o) ∙ ap (λ n. n + 1) (sym r.place) in
    let spelled : (take_words r.options ++ option_name o ∷ []) ++ drop (at + 1) words ≡ words = append_assoc (take_words r.options) (option_name o ∷ []) (drop (at + 1) words) ∙ (ap (λ l. take_words r.options ++ l) (sym is) ∙ sym r.spelled) in
    subst (λ i. IsWrongAt IsCommand words i) place
    (subst (λ w. IsWrongAt IsCommand w (length (take_words r.options ++ option_name o ∷ []))) spelled (wrong_after_name more r.options o (drop (at + 1) words) h r.values.ranges other))

-- a word that names no option
pub no_option : (q : TakeOption) (rest : List (List ℕ)) (w : List ℕ) (more : List (List ℕ)) → rest ≡ w ∷ more → w ≡ option_name q → ((l : List (List ℕ)) → rest ≡ codes "--bound" ∷ l → ⊥) → ((l : List (List ℕ)) → rest ≡ codes "--flow" ∷ l → ⊥)
    → ((l : List (List ℕ)) → rest ≡ codes "--sample-base" ∷ l → ⊥) → ((l : List (List ℕ)) → rest ≡ codes "--timescale" ∷ l → ⊥) → ((l : List (List ℕ)) → rest ≡ codes "--assume" ∷ l → ⊥) → ⊥
no_option (bound n) rest w more e is a b c d f = a more (e ∙ ap (λ k. k ∷ more) is)
no_option (chosen g) rest w more e is a b c d f = b more (e ∙ ap (λ k. k ∷ more) is)
no_option (sample_base n) rest w more e is a b c d f = c more (e ∙ ap (λ k. k ∷ more) is)
no_option (timescale n) rest w more e is a b c d f = d more (e ∙ ap (λ k. k ∷ more) is)
no_option (assume v n) rest w more e is a b c d f = f more (e ∙ ap (λ k. k ∷ more) is)
