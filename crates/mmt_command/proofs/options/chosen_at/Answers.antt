use Rattle.std.proofs.Common.{◌≡◌, ◌∙◌, ◌∷◌, Some, None, ap, sym, refl, subst, arith}
use Rattle.std.specs.Prelude.{codes}
use Rattle.mmt_command.specs.Words.{texts}
use Rattle.mmt_command.specs.TakeWords.{chosen, option_value, HasOptionRange}
use Rattle.mmt_command.specs.Reading.{one_if}
use Rattle.mmt_command.proofs.PeakWords.{first_flow, first_range}
use Rattle.mmt_command.proofs.OptionWords.{named_chosen}
use Rattle.mmt_command.proofs.TakeGiven.{true_some, false_none, some_given, flow_more, read_more}
use Rattle.mmt_command.proofs.TakeWrong.{wrong_again, wrong_value}
use Rattle.mmt_command.proofs.options.chosen_at.Goals as goal

pub returns-then-is_some-clause-wrong : goal.returns-then-is_some-clause-wrong
returns-then-is_some-clause-wrong c =
    let r = c.requires.read in
    let g = some_given chosen r.options c.args.given.flow r.values.flow (true_some c.args.given.flow (sym c.is_some.ensures ∙ c.if-is_some.true)) in
    wrong_again c.args.given (texts c.args.words.now) c.args.at (codes "--flow") (chosen g.0) r c.requires.name refl g.1

pub returns-in-Some-clause-read : goal.returns-in-Some-clause-read
returns-in-Some-clause-read c =
    let r = c.requires.read in
    let none : c.args.given.flow ≡ None = false_none c.args.given.flow (sym c.is_some.ensures ∙ c.if-is_some.false) in
    read_more c.args.given (record c.args.given { flow = Some c.in-Some.flow }) (texts c.args.words.now) c.args.at (chosen c.in-Some.flow) r (flow_more c.args.given r.options c.in-Some.flow r.values none c.in-Some.ensures.range)
    (omega (arith, ap (λ g. one_if g) none)) c.requires.name c.in-Some.ensures.word

pub returns-in-None-clause-wrong : goal.returns-in-None-clause-wrong
returns-in-None-clause-wrong c =
    let r = c.requires.read in
    let none : c.args.given.flow ≡ None = false_none c.args.given.flow (sym c.is_some.ensures ∙ c.if-is_some.false) in
    wrong_value c.args.given (record c.args.given { flow = Some first_flow }) (texts c.args.words.now) c.args.at (chosen first_flow) r (flow_more c.args.given r.options first_flow r.values none first_range) c.requires.name
    (λ q others e range is. let n = named_chosen q (sym e) in let x : HasOptionRange (chosen n.0) = subst (λ k. HasOptionRange k) n.1 range in c.in-None.ensures.none n.0 others x (is ∙ ap (λ k. option_value k ∷ others) n.1))
