use Rattle.std.proofs.Common.{arith}
use Rattle.std.specs.Prelude.{string_bytes}
use Rattle.std.proofs.lemmas.List.{length-map}
use Rattle.std.proofs.lemmas.Result.{err_from_is_err_and}
use Rattle.mmt_command.specs.Words.{texts}
use Rattle.mmt_command.proofs.GatewayWords.{no_context, no_every, squeeze_given, squeeze_long}
use Rattle.mmt_command.proofs.gateway_words.squeeze_of.Goals as goal

pub returns-in_err-context-clause-wrong : goal.returns-in_err-context-clause-wrong
returns-in_err-context-clause-wrong c =
    let p = err_from_is_err_and c.from_residual.result c.from_residual.ensures.1 in
    rw (p.1, p.2) (no_context (texts c.args.words.now) c.in_err-context.field-0.0 c.requires c.in_err-context.ensures.wrong)

pub returns-in_err-full_every-clause-wrong : goal.returns-in_err-full_every-clause-wrong
returns-in_err-full_every-clause-wrong c =
    let p = err_from_is_err_and c.from_residual-in_err-full_every.result c.from_residual-in_err-full_every.ensures.1 in
    rw (p.1, p.2) (no_every (texts c.args.words.now) c.in_ok-context.context c.in_err-full_every.field-0.0 c.requires c.in_ok-context.ensures.words c.in_ok-context.ensures.range.1 c.in_err-full_every.ensures.wrong)

pub returns-then-words-eq5-clause-command : goal.returns-then-words-eq5-clause-command
returns-then-words-eq5-clause-command c =
    squeeze_given (texts c.args.words.now) c.in_ok-context.context c.in_ok-full_every.full_every
    (record {
      name = c.requires;
      first = c.in_ok-context.ensures.words;
      second = c.in_ok-full_every.ensures.words;
      context_high = c.in_ok-context.ensures.range.1;
      every_low = c.in_ok-full_every.ensures.range.0;
      every_high = c.in_ok-full_every.ensures.range.1;
    })
    (omega (arith, length-map c.args.words.now string_bytes, c.if-words-eq5.true))

pub returns-else-words-eq5-clause-wrong : goal.returns-else-words-eq5-clause-wrong
returns-else-words-eq5-clause-wrong c =
    squeeze_long (texts c.args.words.now) c.in_ok-context.context c.in_ok-full_every.full_every
    (record {
      name = c.requires;
      first = c.in_ok-context.ensures.words;
      second = c.in_ok-full_every.ensures.words;
      context_high = c.in_ok-context.ensures.range.1;
      every_low = c.in_ok-full_every.ensures.range.0;
      every_high = c.in_ok-full_every.ensures.range.1;
    })
    (λ e. omega (arith, length-map c.args.words.now string_bytes, c.if-words-eq5.false))
