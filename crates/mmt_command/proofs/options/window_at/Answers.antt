use Rattle.std.proofs.Common.{◌≡◌, ◌∙◌, ◌∷◌, ℕ, Some, None, ap, sym, refl, subst, arith}
use Rattle.std.specs.Prelude.{codes}
use Rattle.mmt_command.specs.Words.{texts}
use Rattle.mmt_command.specs.TakeWords.{assume, option_value, HasOptionRange}
use Rattle.mmt_command.specs.Reading.{one_if}
use Rattle.mmt_command.proofs.OptionWords.{named_assume}
use Rattle.mmt_command.proofs.TakeGiven.{true_some, false_none, some_given, assumed_more, read_more}
use Rattle.mmt_command.proofs.TakeWrong.{wrong_again, wrong_value}
use Rattle.mmt_command.proofs.options.window_at.Goals as goal

pub returns-then-is_some-clause-wrong : goal.returns-then-is_some-clause-wrong
returns-then-is_some-clause-wrong c =
    let r = c.requires.read in
    let g = some_given {A = ℕ × ℕ} (λ p. assume p.0 p.1) r.options c.args.given.assumed r.values.assumed (true_some c.args.given.assumed (sym c.is_some.ensures ∙ c.if-is_some.true)) in
    wrong_again c.args.given (texts c.args.words.now) c.args.at (codes "--assume") (assume g.0.0 g.0.1) r c.requires.name refl g.1

pub returns-in-Some-clause-read : goal.returns-in-Some-clause-read
returns-in-Some-clause-read c =
    let r = c.requires.read in
    let none : c.args.given.assumed ≡ None = false_none c.args.given.assumed (sym c.is_some.ensures ∙ c.if-is_some.false) in
    read_more c.args.given (record c.args.given { assumed = Some c.in-Some.assumed }) (texts c.args.words.now) c.args.at (assume c.in-Some.assumed.0 c.in-Some.assumed.1) r (assumed_more c.args.given r.options c.in-Some.assumed.0 c.in-Some.assumed.1 r.values none c.in-Some.ensures.range)
    (omega (arith, ap (λ g. one_if g) none)) c.requires.name c.in-Some.ensures.word

pub returns-in-None-clause-wrong : goal.returns-in-None-clause-wrong
returns-in-None-clause-wrong c =
    let r = c.requires.read in
    let none : c.args.given.assumed ≡ None = false_none c.args.given.assumed (sym c.is_some.ensures ∙ c.if-is_some.false) in
    wrong_value c.args.given (record c.args.given { assumed = Some (2, 1) }) (texts c.args.words.now) c.args.at (assume 2 1) r (assumed_more c.args.given r.options 2 1 r.values none (omega arith, omega arith, omega arith)) c.requires.name
    (λ q others e range is. let n = named_assume q (sym e) in let x : HasOptionRange (assume n.0.0 n.0.1) = subst (λ k. HasOptionRange k) n.1 range in c.in-None.ensures.none n.0.0 n.0.1 others x (is ∙ ap (λ k. option_value k ∷ others) n.1))
