use Rattle.std.proofs.Common.{◌≡◌, ℕ, ◌+◌, Option, Some, None, List, drop, ap, sym, ◌∙◌, ◌∷◌, IfSome, IfNone}
use Rattle.mmt_model.specs.declared.programmes.Flow.{Flow}
use Rattle.mmt_command.specs.Words.{texts}
use Rattle.mmt_command.specs.Flows.{flow_text, HasFlowRange}
use Rattle.mmt_command.proofs.Places.{word_at}
use Rattle.mmt_command.proofs.flows.flow_at.Goals as goal

some_of : (r : Option Flow) (word : List ℕ) (words rest : List (List ℕ)) → words ≡ word ∷ rest → IfSome r (λ f. word ≡ flow_text f) → IfSome r (λ f. words ≡ flow_text f ∷ rest)
some_of None word words rest at is = tt
some_of (Some f) word words rest at is = at ∙ ap (λ x. x ∷ rest) is

none_of : (r : Option Flow) (word : List ℕ) (words rest : List (List ℕ)) → words ≡ word ∷ rest → IfNone r ((f : Flow) → HasFlowRange f → word ≡ flow_text f → ⊥)
    → IfNone r ((f : Flow) (more : List (List ℕ)) → HasFlowRange f → words ≡ flow_text f ∷ more → ⊥)
none_of None word words rest at none = λ f more range is. none f range cc
none_of (Some f) word words rest at none = tt

pub returns-in-Some-clause-word : goal.returns-in-Some-clause-word
returns-in-Some-clause-word c =
    some_of c.flow_of.result c.as_str.result.now _ _
    (word_at c.args.words.now c.args.at c.in-Some.word.now c.in-Some.ensures.lookup.3.0 c.in-Some.ensures.lookup.1 ∙ ap (λ x. x ∷ drop (c.args.at + 1) (texts c.args.words.now)) (sym c.as_str.ensures.value))
    c.flow_of.ensures.some

pub returns-in-Some-clause-none : goal.returns-in-Some-clause-none
returns-in-Some-clause-none c =
    none_of c.flow_of.result c.as_str.result.now _ _
    (word_at c.args.words.now c.args.at c.in-Some.word.now c.in-Some.ensures.lookup.3.0 c.in-Some.ensures.lookup.1 ∙ ap (λ x. x ∷ drop (c.args.at + 1) (texts c.args.words.now)) (sym c.as_str.ensures.value))
    c.flow_of.ensures.none
