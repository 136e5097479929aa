use Rattle.std.proofs.Common.{◌≡◌, ◌+◌, ◌-◌, ◌<◌, refl, sym, ◌∙◌, ap, arith, map, Some, None}
use Rattle.mmt_runs.specs.Reading.{heard}
use Rattle.mmt_runs.specs.MessageParts.{number_before, first_before}
use Rattle.mmt_runs.proofs.WalkSteps.{first_zero, first_other, first_here, first_back}
use Rattle.mmt_runs.proofs.messages.walk_back.Goals as goal

pub returns-in-None : goal.returns-in-None
returns-in-None c = sym (c.loop-step.invariant ∙ first_other _ _ _ _ None (sym c.in-None.ensures) (λ r. refl))

pub returns-in-Some-Whole-default : goal.returns-in-Some-Whole-default
returns-in-Some-Whole-default c =
    sym (c.loop-step.invariant ∙ first_other _ _ _ _ _ (sym c.in-Some-Whole-default.ensures ∙ ap (λ p. Some (p, c.in-Some-Whole-default.field-0-1.now)) c.in-Some-Whole-default.field-0-0-is) (λ r. refl))

pub returns-in-Some-First-default : goal.returns-in-Some-First-default
returns-in-Some-First-default c =
    let some : 0 < c.args.most - c.loop-step._step = omega (arith, c.loop-step-test.true) in
    sym (c.loop-step.invariant ∙ first_here _ _ _ _ c.in-Some-First-default.bytes.now some (sym c.in-Some-First-default.ensures ∙ ap (λ p. Some (p, c.in-Some-First-default.bytes.now)) c.in-Some-First-default.field-0-0-is))

pub returns-in-Some-Last-default : goal.returns-in-Some-Last-default
returns-in-Some-Last-default c =
    sym (c.loop-step.invariant ∙ first_other _ _ _ _ _ (sym c.in-Some-Last-default.ensures ∙ ap (λ p. Some (p, c.in-Some-Last-default.field-0-1.now)) c.in-Some-Last-default.field-0-0-is) (λ r. refl))

pub loop-step-preserved : goal.loop-step-preserved
unfolding number_before
loop-step-preserved c =
    let some : 0 < c.args.most - c.loop-step._step = omega (arith, c.loop-step-test.true) in
    let less : c.args.most - c.loop-step._step - 1 ≡ c.args.most - (c.loop-step._step + 1) = omega arith in
    c.loop-step.invariant
    ∙ (first_back _ _ _ _ c.in-Some-Middle-default.field-0-1.now some (sym c.in-Some-Middle-default.ensures ∙ ap (λ p. Some (p, c.in-Some-Middle-default.field-0-1.now)) c.in-Some-Middle-default.field-0-0-is)
    ∙ ap (λ k. first_before (map heard c.args.pool.now.kept) c.args.span.packet_id k (number_before c.loop-step.number)) less)

pub returns : goal.returns
returns c = sym (c.loop-step.invariant ∙ first_zero _ _ _ _ (omega (arith, c.loop-step-test.false)))
