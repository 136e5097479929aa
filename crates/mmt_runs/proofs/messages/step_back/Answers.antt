use Rattle.std.proofs.Common.{sym, ◌∙◌, ap, Some}
use Rattle.mmt_runs.specs.MessageParts.{number_before, back_by, back_from}
use Rattle.mmt_runs.proofs.Sides.{back_nowhere, back_at}
use Rattle.mmt_runs.proofs.messages.step_back.Goals as goal

pub returns-in-None : goal.returns-in-None
returns-in-None c = sym (ap (back_from _ _) c.in-None.is ∙ back_nowhere _ _)

pub returns-in-None-lone_part : goal.returns-in-None-lone_part
returns-in-None-lone_part c = sym (ap (back_from _ _) c.in-Some.is ∙ (back_at _ _ c.in-Some.number ∙ ap (back_by c.in-Some.number) (sym c.in-None-lone_part.ensures)))

pub returns-in-Some-Whole-default : goal.returns-in-Some-Whole-default
returns-in-Some-Whole-default c = sym (ap (back_from _ _) c.in-Some.is ∙ (back_at _ _ c.in-Some.number ∙ ap (back_by c.in-Some.number) (sym c.in-Some-Whole-default.ensures ∙ ap (λ p. Some (p, c.in-Some-Whole-default.field-0-1.now)) c.in-Some-Whole-default.field-0-0-is)))

pub returns-in-Some-First-default : goal.returns-in-Some-First-default
returns-in-Some-First-default c = sym (ap (back_from _ _) c.in-Some.is ∙ (back_at _ _ c.in-Some.number ∙ ap (back_by c.in-Some.number) (sym c.in-Some-First-default.ensures ∙ ap (λ p. Some (p, c.in-Some-First-default.field-0-1.now)) c.in-Some-First-default.field-0-0-is)))

pub returns-in-Some-Middle-default : goal.returns-in-Some-Middle-default
unfolding number_before
returns-in-Some-Middle-default c = sym (ap (back_from _ _) c.in-Some.is ∙ (back_at _ _ c.in-Some.number ∙ ap (back_by c.in-Some.number) (sym c.in-Some-Middle-default.ensures ∙ ap (λ p. Some (p, c.in-Some-Middle-default.field-0-1.now)) c.in-Some-Middle-default.field-0-0-is)))

pub returns-in-Some-Last-default : goal.returns-in-Some-Last-default
returns-in-Some-Last-default c = sym (ap (back_from _ _) c.in-Some.is ∙ (back_at _ _ c.in-Some.number ∙ ap (back_by c.in-Some.number) (sym c.in-Some-Last-default.ensures ∙ ap (λ p. Some (p, c.in-Some-Last-default.field-0-1.now)) c.in-Some-Last-default.field-0-0-is)))
