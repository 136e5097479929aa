use Rattle.std.proofs.Common.{◌∷◌, drop, decimal, sym, ap, subst, ◌∙◌, arith}
use Rattle.std.specs.Prelude.{codes}
use Rattle.std.proofs.lemmas.Result.{err_from_is_err_and}
use Rattle.mmt_model.specs.declared.programmes.Params.{Params}
use Rattle.mmt_command.specs.Words.{texts, IsWrongAt}
use Rattle.mmt_command.specs.Commands.{IsCommand}
use Rattle.mmt_command.proofs.PeakWords.{no_delay, no_window, no_bound, no_flow}
use Rattle.mmt_command.proofs.peak_words.peak_of.Goals as goal

pub returns-in_err-delay-clause-wrong : goal.returns-in_err-delay-clause-wrong
returns-in_err-delay-clause-wrong c =
    let p = err_from_is_err_and c.from_residual.result c.from_residual.ensures.1 in
    rw (p.1, p.2) (subst (λ t. IsWrongAt IsCommand t c.in_err-delay.field-0.0) (sym c.requires) (no_delay (drop 1 (texts c.args.words.now)) c.in_err-delay.field-0.0 c.in_err-delay.ensures.wrong))

pub returns-in_err-window-clause-wrong : goal.returns-in_err-window-clause-wrong
returns-in_err-window-clause-wrong c =
    let p = err_from_is_err_and c.from_residual-in_err-window.result c.from_residual-in_err-window.ensures.1 in
    let r = c.in_ok-delay.ensures.range in
    let e = c.requires ∙ ap (λ x. codes "peak" ∷ x) c.in_ok-delay.ensures.words in
    rw (p.1, p.2) (subst (λ t. IsWrongAt IsCommand t c.in_err-window.field-0.0) (sym e)
    (no_window c.in_ok-delay.delay (drop 3 (texts c.args.words.now)) c.in_err-window.field-0.0 r.0 (omega arith) c.in_err-window.ensures.wrong))

pub returns-in_err-bound-clause-wrong : goal.returns-in_err-bound-clause-wrong
returns-in_err-bound-clause-wrong c =
    let p = err_from_is_err_and c.from_residual-in_err-bound.result c.from_residual-in_err-bound.ensures.1 in
    let r = c.in_ok-delay.ensures.range in
    let s = c.in_ok-window.ensures.range in
    let e = c.requires ∙ (ap (λ x. codes "peak" ∷ x) c.in_ok-delay.ensures.words ∙ ap (λ x. codes "peak" ∷ codes "--delay" ∷ decimal c.in_ok-delay.delay ∷ x) c.in_ok-window.ensures.words) in
    rw (p.1, p.2) (subst (λ t. IsWrongAt IsCommand t c.in_err-bound.field-0.0) (sym e)
    (no_bound c.in_ok-delay.delay c.in_ok-window.window (drop 5 (texts c.args.words.now)) c.in_err-bound.field-0.0
    (record { delay = r.0; window_low = omega arith; window_high = omega arith; bound_low = omega arith; bound_high = omega arith }) c.in_err-bound.ensures.wrong))

pub returns-in_err-flow-clause-wrong : goal.returns-in_err-flow-clause-wrong
returns-in_err-flow-clause-wrong c =
    let t = err_from_is_err_and c.from_residual-in_err-flow.result c.from_residual-in_err-flow.ensures.1 in
    let r = c.in_ok-delay.ensures.range in
    let s = c.in_ok-window.ensures.range in
    let b = c.in_ok-bound.ensures.range in
    let params : Params = record { bound = c.in_ok-bound.bound; window = c.in_ok-window.window; delay = c.in_ok-delay.delay } in
    let e = c.requires ∙ (ap (λ x. codes "peak" ∷ x) c.in_ok-delay.ensures.words ∙ (ap (λ x. codes "peak" ∷ codes "--delay" ∷ decimal c.in_ok-delay.delay ∷ x) c.in_ok-window.ensures.words
    ∙ ap (λ x. codes "peak" ∷ codes "--delay" ∷ decimal c.in_ok-delay.delay ∷ codes "--window" ∷ decimal c.in_ok-window.window ∷ x) c.in_ok-bound.ensures.words)) in
    rw (t.1, t.2) (subst (λ t. IsWrongAt IsCommand t c.in_err-flow.field-0.0) (sym e)
    (no_flow params (drop 7 (texts c.args.words.now)) c.in_err-flow.field-0.0 (record { delay = r.0; window_low = omega arith; window_high = s.1; bound_low = b.0; bound_high = b.1 }) c.in_err-flow.ensures.wrong))
