use Rattle.std.proofs.Common.{sym, ◌∙◌, ap, Some}
use Rattle.mmt_model.specs.Units.{next_number}
use Rattle.mmt_runs.specs.MessageParts.{number_before, sides_by}
use Rattle.mmt_runs.proofs.messages.sides_of.Goals as goal

pub returns-in-None : goal.returns-in-None
returns-in-None c = ap (sides_by c.args.span.number) c.in-None.ensures

pub returns-in-Some-Whole-default : goal.returns-in-Some-Whole-default
unfolding number_before next_number
returns-in-Some-Whole-default c = ap (sides_by c.args.span.number) (sym (sym c.in-Some-Whole-default.ensures ∙ ap (λ p. Some (p, c.in-Some-Whole-default.field-0-1.now)) c.in-Some-Whole-default.field-0-0-is))

pub returns-in-Some-First-default : goal.returns-in-Some-First-default
unfolding number_before next_number
returns-in-Some-First-default c = ap (sides_by c.args.span.number) (sym (sym c.in-Some-First-default.ensures ∙ ap (λ p. Some (p, c.in-Some-First-default.field-0-1.now)) c.in-Some-First-default.field-0-0-is))

pub returns-in-Some-Middle-default : goal.returns-in-Some-Middle-default
unfolding number_before next_number
returns-in-Some-Middle-default c = ap (sides_by c.args.span.number) (sym (sym c.in-Some-Middle-default.ensures ∙ ap (λ p. Some (p, c.in-Some-Middle-default.field-0-1.now)) c.in-Some-Middle-default.field-0-0-is))

pub returns-in-Some-Last-default : goal.returns-in-Some-Last-default
unfolding number_before next_number
returns-in-Some-Last-default c = ap (sides_by c.args.span.number) (sym (sym c.in-Some-Last-default.ensures ∙ ap (λ p. Some (p, c.in-Some-Last-default.field-0-1.now)) c.in-Some-Last-default.field-0-0-is))
