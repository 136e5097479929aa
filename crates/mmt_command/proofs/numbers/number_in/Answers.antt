use Rattle.std.proofs.Common.{◌≡◌, ◌∙◌, sym, arith, decimal, ap}
use Rattle.std.proofs.lemmas.Fmt.{parse-decimal}
use Rattle.mmt_command.proofs.numbers.number_in.Goals as goal
use Rattle.mmt_command.proofs.numbers.number_in.Goals.{then-number-low-via-then-number-low, then-number-low-via-else-number-low+then-number-high}

pub returns-in-Err-clause-none : goal.returns-in-Err-clause-none
returns-in-Err-clause-none c = λ n low high is.
    let r = parse-decimal 32 n c.args.text.now c.parse.result (omega arith) (omega arith) is c.parse.ensures.value.0 in absurd cc

pub returns-then-number-low-clause-none : goal.returns-then-number-low-clause-none
returns-then-number-low-clause-none c = λ n low high is.
    let r = parse-decimal 32 n c.args.text.now c.parse.result (omega arith) (omega arith) is c.parse.ensures.value.0 in
    let e : c.in-Ok.number ≡ n = cc in
    elim c.then-number-low.branch [ then-number-low-via-then-number-low w ↦ omega arith | then-number-low-via-else-number-low+then-number-high w ↦ omega arith ]

pub returns-else-text_is-clause-none : goal.returns-else-text_is-clause-none
returns-else-text_is-clause-none c = λ n low high is.
    let r = parse-decimal 32 n c.args.text.now c.parse.result (omega arith) (omega arith) is c.parse.ensures.value.0 in
    let e : c.in-Ok.number ≡ n = cc in
    c.text_is.ensures.no c.if-text_is.false (is ∙ (ap decimal (sym e) ∙ sym c.format.ensures.text))
