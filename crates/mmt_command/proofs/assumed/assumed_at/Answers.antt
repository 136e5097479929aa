use Rattle.std.proofs.Common.{◌≡◌, ℕ, ◌+◌, Option, Some, None, List, drop, ap, sym, ◌∙◌, ◌∷◌, IfSome, IfNone}
use Rattle.mmt_command.specs.Words.{texts}
use Rattle.mmt_command.specs.TakeWords.{assumed_text, HasAssumedRange}
use Rattle.mmt_command.proofs.Places.{word_at}
use Rattle.mmt_command.proofs.assumed.assumed_at.Goals as goal

some_of : (r : Option (ℕ × ℕ)) (word : List ℕ) (words rest : List (List ℕ)) → words ≡ word ∷ rest → IfSome r (λ p. word ≡ assumed_text p.0 p.1) → IfSome r (λ p. words ≡ assumed_text p.0 p.1 ∷ rest)
some_of None word words rest at is = tt
some_of (Some p) word words rest at is = at ∙ ap (λ x. x ∷ rest) is

none_of : (r : Option (ℕ × ℕ)) (word : List ℕ) (words rest : List (List ℕ)) → words ≡ word ∷ rest → IfNone r ((w d : ℕ) → HasAssumedRange w d → word ≡ assumed_text w d → ⊥)
    → IfNone r ((w d : ℕ) (more : List (List ℕ)) → HasAssumedRange w d → words ≡ assumed_text w d ∷ more → ⊥)
none_of None word words rest at none = λ w d more range is. none w d range cc
none_of (Some p) word words rest at none = tt

pub returns-in-Some-clause-word : goal.returns-in-Some-clause-word
returns-in-Some-clause-word c =
    some_of c.assumed_of.result c.as_str.result.now _ _
    (word_at c.args.words.now c.args.at c.in-Some.word.now c.in-Some.ensures.lookup.3.0 c.in-Some.ensures.lookup.1 ∙ ap (λ x. x ∷ drop (c.args.at + 1) (texts c.args.words.now)) (sym c.as_str.ensures.value))
    c.assumed_of.ensures.some

pub returns-in-Some-clause-none : goal.returns-in-Some-clause-none
returns-in-Some-clause-none c =
    none_of c.assumed_of.result c.as_str.result.now _ _
    (word_at c.args.words.now c.args.at c.in-Some.word.now c.in-Some.ensures.lookup.3.0 c.in-Some.ensures.lookup.1 ∙ ap (λ x. x ∷ drop (c.args.at + 1) (texts c.args.words.now)) (sym c.as_str.ensures.value))
    c.assumed_of.ensures.none
