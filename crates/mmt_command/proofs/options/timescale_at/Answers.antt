use Rattle.std.proofs.Common.{◌≡◌, ◌∙◌, ◌∷◌, Some, None, ap, sym, refl, subst, arith}
use Rattle.std.specs.Prelude.{codes}
use Rattle.mmt_command.specs.Words.{texts}
use Rattle.mmt_command.specs.TakeWords.{timescale, option_value, HasOptionRange}
use Rattle.mmt_command.specs.Reading.{one_if}
use Rattle.mmt_command.proofs.OptionWords.{named_timescale}
use Rattle.mmt_command.proofs.TakeGiven.{true_some, false_none, some_given, timescale_more, read_more}
use Rattle.mmt_command.proofs.TakeWrong.{wrong_again, wrong_value}
use Rattle.mmt_command.proofs.options.timescale_at.Goals as goal

pub returns-then-is_some-clause-wrong : goal.returns-then-is_some-clause-wrong
returns-then-is_some-clause-wrong c =
    let r = c.requires.read in
    let g = some_given timescale r.options c.args.given.timescale r.values.timescale (true_some c.args.given.timescale (sym c.is_some.ensures ∙ c.if-is_some.true)) in
    wrong_again c.args.given (texts c.args.words.now) c.args.at (codes "--timescale") (timescale g.0) r c.requires.name refl g.1

pub returns-in-Some-clause-read : goal.returns-in-Some-clause-read
returns-in-Some-clause-read c =
    let r = c.requires.read in
    let none : c.args.given.timescale ≡ None = false_none c.args.given.timescale (sym c.is_some.ensures ∙ c.if-is_some.false) in
    read_more c.args.given (record c.args.given { timescale = Some c.in-Some.timescale }) (texts c.args.words.now) c.args.at (timescale c.in-Some.timescale) r (timescale_more c.args.given r.options c.in-Some.timescale r.values none (c.in-Some.ensures.range.0, omega arith))
    (omega (arith, ap (λ g. one_if g) none)) c.requires.name c.in-Some.ensures.word

pub returns-in-None-clause-wrong : goal.returns-in-None-clause-wrong
returns-in-None-clause-wrong c =
    let r = c.requires.read in
    let none : c.args.given.timescale ≡ None = false_none c.args.given.timescale (sym c.is_some.ensures ∙ c.if-is_some.false) in
    wrong_value c.args.given (record c.args.given { timescale = Some 1 }) (texts c.args.words.now) c.args.at (timescale 1) r (timescale_more c.args.given r.options 1 r.values none (omega arith, omega arith)) c.requires.name
    (λ q others e range is. let n = named_timescale q (sym e) in let x : HasOptionRange (timescale n.0) = subst (λ k. HasOptionRange k) n.1 range in c.in-None.ensures.none n.0 others x.0 (omega arith) (is ∙ ap (λ k. option_value k ∷ others) n.1))
