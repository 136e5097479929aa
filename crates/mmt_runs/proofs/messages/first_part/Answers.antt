use Rattle.std.proofs.Common.{refl, sym, ◌∙◌, ap, Some, None}
use Rattle.mmt_runs.specs.MessageParts.{number_before}
use Rattle.mmt_runs.proofs.WalkSteps.{from_other, from_first, from_earlier}
use Rattle.mmt_runs.proofs.messages.first_part.Goals as goal

pub returns-in-None : goal.returns-in-None
returns-in-None c = sym (from_other _ _ _ _ None (sym c.in-None.ensures) (λ r. refl))

pub returns-in-Some-Whole-default : goal.returns-in-Some-Whole-default
returns-in-Some-Whole-default c =
    sym (from_other _ _ _ _ _ (sym c.in-Some-Whole-default.ensures ∙ ap (λ p. Some (p, c.in-Some-Whole-default.field-0-1.now)) c.in-Some-Whole-default.field-0-0-is) (λ r. refl))

pub returns-in-Some-First-default : goal.returns-in-Some-First-default
returns-in-Some-First-default c =
    sym (from_first _ _ _ _ c.in-Some-First-default.bytes.now (sym c.in-Some-First-default.ensures ∙ ap (λ p. Some (p, c.in-Some-First-default.bytes.now)) c.in-Some-First-default.field-0-0-is))

pub returns-in-Some-Middle-default : goal.returns-in-Some-Middle-default
unfolding number_before
returns-in-Some-Middle-default c =
    c.walk_back.ensures ∙ sym (from_earlier _ _ _ _ _ (sym c.in-Some-Middle-default.ensures ∙ ap (λ p. Some (p, c.in-Some-Middle-default.field-0-1.now)) c.in-Some-Middle-default.field-0-0-is) (λ r. refl))

pub returns-in-Some-Last-default : goal.returns-in-Some-Last-default
unfolding number_before
returns-in-Some-Last-default c =
    c.walk_back-in-Some-Last-default.ensures ∙ sym (from_earlier _ _ _ _ _ (sym c.in-Some-Last-default.ensures ∙ ap (λ p. Some (p, c.in-Some-Last-default.field-0-1.now)) c.in-Some-Last-default.field-0-0-is) (λ r. refl))
