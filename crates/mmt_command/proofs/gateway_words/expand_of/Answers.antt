use Rattle.std.proofs.Common.{arith}
use Rattle.std.specs.Prelude.{string_bytes}
use Rattle.std.proofs.lemmas.List.{length-map}
use Rattle.mmt_command.specs.Words.{texts}
use Rattle.mmt_command.proofs.GatewayWords.{expand_wrong}
use Rattle.mmt_command.proofs.gateway_words.expand_of.Goals as goal

pub returns-else-words-eq1-clause-wrong : goal.returns-else-words-eq1-clause-wrong
returns-else-words-eq1-clause-wrong c = expand_wrong (texts c.args.words.now) c.requires (λ e. omega (arith, length-map c.args.words.now string_bytes, c.if-words-eq1.false))
