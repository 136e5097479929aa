use Rattle.std.proofs.Common.{arith}
use Rattle.std.specs.Prelude.{string_bytes}
use Rattle.std.proofs.lemmas.List.{length-map}
use Rattle.std.proofs.lemmas.Result.{err_from_is_err_and}
use Rattle.mmt_command.specs.Words.{texts}
use Rattle.mmt_command.proofs.PaceWords.{pace_short, no_step, pace_given, pace_long}
use Rattle.mmt_command.proofs.pace_words.pace_of.Goals as goal

pub returns-then-words-lt2-clause-wrong : goal.returns-then-words-lt2-clause-wrong
returns-then-words-lt2-clause-wrong c = pace_short (texts c.args.words.now) c.requires (omega (arith, length-map c.args.words.now string_bytes, c.if-words-lt2.true))

pub returns-in_err-step-clause-wrong : goal.returns-in_err-step-clause-wrong
returns-in_err-step-clause-wrong c =
    let p = err_from_is_err_and c.from_residual.result c.from_residual.ensures.1 in
    rw (p.1, p.2) (no_step (texts c.args.words.now) c.in_err-step.field-0.0 c.requires (omega (arith, length-map c.args.words.now string_bytes, c.if-words-lt2.false)) c.in_err-step.ensures.wrong)

pub returns-then-words-eq4-clause-command : goal.returns-then-words-eq4-clause-command
returns-then-words-eq4-clause-command c =
    pace_given (texts c.args.words.now) c.in_ok-step.step
    (record {
      name = c.requires;
      plan = omega (arith, length-map c.args.words.now string_bytes, c.if-words-lt2.false);
      option = c.in_ok-step.ensures.words;
      low = c.in_ok-step.ensures.range.0;
      high = c.in_ok-step.ensures.range.1;
    })
    (omega (arith, length-map c.args.words.now string_bytes, c.if-words-eq4.true))

pub returns-else-words-eq4-clause-wrong : goal.returns-else-words-eq4-clause-wrong
returns-else-words-eq4-clause-wrong c =
    pace_long (texts c.args.words.now) c.in_ok-step.step
    (record {
      name = c.requires;
      plan = omega (arith, length-map c.args.words.now string_bytes, c.if-words-lt2.false);
      option = c.in_ok-step.ensures.words;
      low = c.in_ok-step.ensures.range.0;
      high = c.in_ok-step.ensures.range.1;
    })
    (λ e. omega (arith, length-map c.args.words.now string_bytes, c.if-words-eq4.false))
