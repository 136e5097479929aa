use Rattle.std.proofs.Common.{arith}
use Rattle.std.specs.Prelude.{string_bytes}
use Rattle.std.proofs.lemmas.List.{length-map}
use Rattle.mmt_command.specs.Words.{texts}
use Rattle.mmt_command.proofs.PlanWords.{mux_given, mux_wrong_one, mux_wrong_two}
use Rattle.mmt_command.proofs.plan_words.mux_of.Goals as goal

pub returns-then-words-eq2-clause-command : goal.returns-then-words-eq2-clause-command
returns-then-words-eq2-clause-command c = mux_given (texts c.args.words.now) c.requires (omega (arith, length-map c.args.words.now string_bytes, c.if-words-eq2.true))

pub returns-then-words-lt2-clause-wrong : goal.returns-then-words-lt2-clause-wrong
returns-then-words-lt2-clause-wrong c = mux_wrong_one (texts c.args.words.now) c.requires (omega (arith, length-map c.args.words.now string_bytes, c.if-words-lt2.true))

pub returns-else-words-lt2-clause-wrong : goal.returns-else-words-lt2-clause-wrong
returns-else-words-lt2-clause-wrong c =
    mux_wrong_two (texts c.args.words.now) c.requires (omega (arith, length-map c.args.words.now string_bytes, c.if-words-eq2.false, c.if-words-lt2.false))
