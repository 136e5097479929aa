use Rattle.std.proofs.Common.{◌≡◌, ℕ, Option, Some, None, List, ap, ◌∙◌, ◌∷◌, decimal, ◌≤◌, IfSome, IfNone}
use Rattle.std.specs.Prelude.{string_bytes}
use Rattle.mmt_command.proofs.Places.{word_at}
use Rattle.mmt_command.proofs.numbers.number_at.Goals as goal

some_of : (r : Option ℕ) (word : List ℕ) (words rest : List (List ℕ)) → words ≡ word ∷ rest → IfSome r (λ n. word ≡ decimal n) → IfSome r (λ n. words ≡ decimal n ∷ rest)
some_of None word words rest at is = tt
some_of (Some n) word words rest at is = at ∙ ap (λ x. x ∷ rest) is

none_of : (r : Option ℕ) (word : List ℕ) (words rest : List (List ℕ)) (low high : ℕ) → words ≡ word ∷ rest → IfNone r ((n : ℕ) → low ≤ n → n ≤ high → word ≡ decimal n → ⊥)
    → IfNone r ((n : ℕ) (more : List (List ℕ)) → low ≤ n → n ≤ high → words ≡ decimal n ∷ more → ⊥)
none_of None word words rest low high at none = λ n more l h is. none n l h cc
none_of (Some n) word words rest low high at none = tt

pub returns-in-Some-clause-word : goal.returns-in-Some-clause-word
returns-in-Some-clause-word c =
    some_of c.number_of.result (string_bytes c.in-Some.word.now) _ _ (word_at c.args.words.now c.args.at c.in-Some.word.now c.in-Some.ensures.lookup.3.0 c.in-Some.ensures.lookup.1) c.number_of.ensures.word

pub returns-in-Some-clause-none : goal.returns-in-Some-clause-none
returns-in-Some-clause-none c =
    none_of c.number_of.result (string_bytes c.in-Some.word.now) _ _ c.args.low c.args.high (word_at c.args.words.now c.args.at c.in-Some.word.now c.in-Some.ensures.lookup.3.0 c.in-Some.ensures.lookup.1) c.number_of.ensures.none
