use Rattle.std.proofs.Common.{arith}
use Rattle.std.specs.Prelude.{string_bytes}
use Rattle.std.proofs.lemmas.List.{length-map}
use Rattle.mmt_command.specs.Words.{texts}
use Rattle.mmt_command.proofs.MakeWords.{no_seed, make_given, make_long}
use Rattle.mmt_command.proofs.make_words.make_of.Goals as goal

pub returns-in-None-clause-wrong : goal.returns-in-None-clause-wrong
returns-in-None-clause-wrong c = no_seed (texts c.args.words.now) c.requires c.in-None.ensures.none

pub returns-then-words-eq2-clause-command : goal.returns-then-words-eq2-clause-command
returns-then-words-eq2-clause-command c =
    make_given (texts c.args.words.now) c.in-Some.seed c.requires c.in-Some.ensures.word c.in-Some.ensures.range.1 (omega (arith, length-map c.args.words.now string_bytes, c.if-words-eq2.true))

pub returns-else-words-eq2-clause-wrong : goal.returns-else-words-eq2-clause-wrong
returns-else-words-eq2-clause-wrong c =
    make_long (texts c.args.words.now) c.in-Some.seed c.requires c.in-Some.ensures.word c.in-Some.ensures.range.1 (λ e. omega (arith, length-map c.args.words.now string_bytes, c.if-words-eq2.false))
