use Rattle.std.proofs.Common.{arith, subst}
use Rattle.std.specs.Prelude.{string_bytes}
use Rattle.std.proofs.lemmas.List.{length-map}
use Rattle.mmt_command.specs.Words.{texts, IsWrongAt}
use Rattle.mmt_command.specs.Commands.{IsCommand}
use Rattle.mmt_command.proofs.PlanWords.{trial_given, trial_short, trial_long}
use Rattle.mmt_command.proofs.plan_words.trial_of.Goals as goal

pub returns-then-count-eq3-clause-command : goal.returns-then-count-eq3-clause-command
returns-then-count-eq3-clause-command c = trial_given (texts c.args.words.now) c.requires (omega (arith, length-map c.args.words.now string_bytes, c.if-count-eq3.true))

pub returns-then-count-lt3-clause-wrong : goal.returns-then-count-lt3-clause-wrong
returns-then-count-lt3-clause-wrong c =
    subst (λ i. IsWrongAt IsCommand (texts c.args.words.now) i) (length-map c.args.words.now string_bytes)
    (trial_short (texts c.args.words.now) c.requires (omega (arith, length-map c.args.words.now string_bytes, c.if-count-lt3.true)))

pub returns-else-count-lt3-clause-wrong : goal.returns-else-count-lt3-clause-wrong
returns-else-count-lt3-clause-wrong c =
    trial_long (texts c.args.words.now) c.requires (omega (arith, length-map c.args.words.now string_bytes, c.if-count-eq3.false, c.if-count-lt3.false))
