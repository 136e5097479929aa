use Rattle.std.proofs.Common.{ap, arith, length}
use Rattle.std.specs.Prelude.{string_bytes}
use Rattle.std.proofs.lemmas.List.{length-drop, length-map}
use Rattle.mmt_command.specs.Words.{texts}
use Rattle.mmt_command.proofs.TakeWrong.{wrong_name, no_option}
use Rattle.mmt_command.proofs.options.read_option.Goals as goal

pub returns-clause-wrong : goal.returns-clause-wrong
returns-clause-wrong c =
    wrong_name c.args.given (texts c.args.words.now) c.args.at c.requires.read
    (λ e. omega (arith, ap length e, length-drop c.args.at (texts c.args.words.now), length-map c.args.words.now string_bytes, c.requires.more))
    (λ w more tail e g. no_option g.option _ w more e g.name (c.is_at.ensures.no c.if-is_at.false) (c.is_at-2.ensures.no c.if-is_at-2.false)
    (c.is_at-3.ensures.no c.if-is_at-3.false) (c.is_at-4.ensures.no c.if-is_at-4.false) (c.is_at-5.ensures.no c.if-is_at-5.false))
