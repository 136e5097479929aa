use Rattle.std.proofs.Common.{◌≡◌, ◌<◌, ◌^◌, ℕ, List, arith, sym, ◌∙◌, subst}
use Rattle.std.specs.Str.{IsUtf8}
use Rattle.mmt_channel.proofs.Lines.{digits-are-text, digits-before}
use Rattle.mmt_channel.proofs.deliveries.first_line.Goals as goal

pub returns-in-Err-clause-none : goal.returns-in-Err-clause-none
returns-in-Err-clause-none c = λ d more l e.
    let small : d < 2 ^ 64 = omega (arith, l, c.ranges.sent) in
    c.in-Err.ensures.cases.0 (subst IsUtf8 (sym (digits-before c.args.text.now c.in-Some.end d more small c.in-Some.ensures.there.0 c.in-Some.ensures.there.1 c.in-Some.ensures.first e)) (digits-are-text d small))

pub returns-in-None-number_in-clause-none : goal.returns-in-None-number_in-clause-none
returns-in-None-number_in-clause-none c = λ d more l e.
    let small : d < 2 ^ 64 = omega (arith, l, c.ranges.sent) in
    c.in-None-number_in.ensures.none d (omega arith) (omega (arith, l))
    (c.in-Ok.ensures.cases.0 ∙ digits-before c.args.text.now c.in-Some.end d more small c.in-Some.ensures.there.0 c.in-Some.ensures.there.1 c.in-Some.ensures.first e)
