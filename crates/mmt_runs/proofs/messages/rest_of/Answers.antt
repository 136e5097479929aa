use Rattle.std.proofs.Common.{◌≡◌, ◌+◌, ◌-◌, ◌<◌, ◌^◌, suc, length, refl, sym, ◌∙◌, ap, arith, map, Some, None}
use Rattle.mmt_model.specs.Units.{next_number}
use Rattle.mmt_runs.specs.Reading.{heard}
use Rattle.mmt_runs.proofs.Sums.{distinct, heard_sum}
use Rattle.mmt_runs.proofs.WalkSteps.{rest_zero, rest_other, rest_last, rest_broken, rest_on, ends_again, middle_weighs, last_weighs}
use Rattle.mmt_runs.proofs.messages.rest_of.Goals as goal

pub loop-step-init : goal.loop-step-init
loop-step-init c =
    let most = c.args.most in
    let same : most - 0 ≡ most = omega arith in
    let below : most < 2 ^ 32 = omega (arith, c.requires) in
    record {
      none = λ e. rw same at e;
      some = λ n t e. ends_again _ _ _ _ n t (0 + n) (0 + t) (omega arith) (omega arith) (rw same at e);
      count = omega arith;
      within = rw same (omega (arith, heard_sum c.args.pool.now.kept, distinct (λ h. h.length) (map heard c.args.pool.now.kept) c.args.span.packet_id most c.args.span.number (omega arith) (omega (arith, below))));
    }

pub returns-in-None : goal.returns-in-None
returns-in-None c = c.loop-step.invariant.none (rest_other _ _ _ _ None (sym c.in-None.ensures) refl)

pub returns-in-Some-Whole-default : goal.returns-in-Some-Whole-default
returns-in-Some-Whole-default c =
    c.loop-step.invariant.none (rest_other _ _ _ _ _ (sym c.in-Some-Whole-default.ensures ∙ ap (λ p. Some (p, c.in-Some-Whole-default.field-0-1.now)) c.in-Some-Whole-default.field-0-0-is) refl)

pub returns-in-Some-First-default : goal.returns-in-Some-First-default
returns-in-Some-First-default c =
    c.loop-step.invariant.none (rest_other _ _ _ _ _ (sym c.in-Some-First-default.ensures ∙ ap (λ p. Some (p, c.in-Some-First-default.field-0-1.now)) c.in-Some-First-default.field-0-0-is) refl)

pub overflow_cast-length : goal.overflow_cast-length
overflow_cast-length c =
    let some : 0 < c.args.most - c.loop-step._step = omega (arith, c.loop-step-test.true, c.requires) in
    omega (arith, middle_weighs c.args.pool.now.kept c.args.span.packet_id (c.args.most - c.loop-step._step) c.loop-step.number c.in-Some-Middle-default.bytes.now some (sym c.in-Some-Middle-default.ensures ∙ ap (λ p. Some (p, c.in-Some-Middle-default.bytes.now)) c.in-Some-Middle-default.field-0-0-is), c.loop-step.invariant.within, c.requires)

pub overflow_add-length : goal.overflow_add-length
overflow_add-length c =
    let some : 0 < c.args.most - c.loop-step._step = omega (arith, c.loop-step-test.true, c.requires) in
    omega (arith, middle_weighs c.args.pool.now.kept c.args.span.packet_id (c.args.most - c.loop-step._step) c.loop-step.number c.in-Some-Middle-default.bytes.now some (sym c.in-Some-Middle-default.ensures ∙ ap (λ p. Some (p, c.in-Some-Middle-default.bytes.now)) c.in-Some-Middle-default.field-0-0-is), c.loop-step.invariant.within, c.requires)

pub overflow_cast-result : goal.overflow_cast-result
overflow_cast-result c =
    let some : 0 < c.args.most - c.loop-step._step = omega (arith, c.loop-step-test.true, c.requires) in
    omega (arith, last_weighs c.args.pool.now.kept c.args.span.packet_id (c.args.most - c.loop-step._step) c.loop-step.number c.in-Some-Last-default.bytes.now some (sym c.in-Some-Last-default.ensures ∙ ap (λ p. Some (p, c.in-Some-Last-default.bytes.now)) c.in-Some-Last-default.field-0-0-is), c.loop-step.invariant.within, c.requires)

pub overflow_add-result-in-Some-Last-default : goal.overflow_add-result-in-Some-Last-default
overflow_add-result-in-Some-Last-default c =
    let some : 0 < c.args.most - c.loop-step._step = omega (arith, c.loop-step-test.true, c.requires) in
    omega (arith, last_weighs c.args.pool.now.kept c.args.span.packet_id (c.args.most - c.loop-step._step) c.loop-step.number c.in-Some-Last-default.bytes.now some (sym c.in-Some-Last-default.ensures ∙ ap (λ p. Some (p, c.in-Some-Last-default.bytes.now)) c.in-Some-Last-default.field-0-0-is), c.loop-step.invariant.within, c.requires)

pub returns-in-Some-Last-default : goal.returns-in-Some-Last-default
returns-in-Some-Last-default c =
    let some : 0 < c.args.most - c.loop-step._step = omega (arith, c.loop-step-test.true, c.requires) in
    c.loop-step.invariant.some 1 (length c.in-Some-Last-default.bytes.now) (rest_last _ _ _ _ c.in-Some-Last-default.bytes.now some (sym c.in-Some-Last-default.ensures ∙ ap (λ p. Some (p, c.in-Some-Last-default.bytes.now)) c.in-Some-Last-default.field-0-0-is))

pub loop-step-preserved : goal.loop-step-preserved
unfolding next_number
loop-step-preserved c =
    let kept = map heard c.args.pool.now.kept in
    let most = c.args.most in
    let id = c.args.span.packet_id in
    let number = c.loop-step.number in
    let bytes = c.in-Some-Middle-default.bytes.now in
    let some : 0 < most - c.loop-step._step = omega (arith, c.loop-step-test.true, c.requires) in
    let less : most - c.loop-step._step - 1 ≡ most - (c.loop-step._step + 1) = omega arith in
    let is = (sym c.in-Some-Middle-default.ensures ∙ ap (λ p. Some (p, c.in-Some-Middle-default.bytes.now)) c.in-Some-Middle-default.field-0-0-is) in
    record {
      none = λ e. c.loop-step.invariant.none (rest_broken kept id (most - c.loop-step._step) number bytes some is (rw less e));
      some = λ n t e. ends_again _ _ _ _ _ _ _ _ (omega arith) (omega arith) (c.loop-step.invariant.some (suc n) (length bytes + t) (rest_on kept id (most - c.loop-step._step) number bytes n t some is (rw less e)));
      count = omega (arith, c.loop-step.invariant.count);
      within = rw (← less) (omega (arith, middle_weighs c.args.pool.now.kept id (most - c.loop-step._step) number bytes some is, c.loop-step.invariant.within));
    }

pub returns : goal.returns
returns c = c.loop-step.invariant.none (rest_zero _ _ _ _ (omega (arith, c.loop-step-test.false, c.requires)))
