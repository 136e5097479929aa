use Rattle.std.proofs.Common.{◌≡◌, Some, None, decimal, arith}
use Rattle.std.proofs.lemmas.Fmt.{decimal_injective}
use Rattle.std.proofs.lemmas.Str.Pattern.{split_after}
use Rattle.mmt_command.proofs.Colons.{no_colon}
use Rattle.mmt_command.proofs.assumed.assumed_of.Goals as goal

pub returns-in-None-clause-none : goal.returns-in-None-clause-none
returns-in-None-clause-none c = λ w d range is. split_after 58 c.args.word.now (decimal w) (decimal d) None c.in-None.ensures.cases (omega arith) is (no_colon w (omega arith))

pub returns-in-None-number_in-clause-none : goal.returns-in-None-number_in-clause-none
returns-in-None-number_in-clause-none c = λ w d range is.
    let s = split_after 58 c.args.word.now (decimal w) (decimal d) (Some c.in-Some.parts) c.in-Some.ensures.cases (omega arith) is (no_colon w (omega arith)) in
    let e : c.in-Some.parts.1.now ≡ decimal d = s.1 in
    c.in-None-number_in.ensures.none d range.0 (omega arith) (cc)

pub returns-in-None-number_in-2-clause-none : goal.returns-in-None-number_in-2-clause-none
returns-in-None-number_in-2-clause-none c = λ w d range is.
    let s = split_after 58 c.args.word.now (decimal w) (decimal d) (Some c.in-Some.parts) c.in-Some.ensures.cases (omega arith) is (no_colon w (omega arith)) in
    let e : c.in-Some.parts.1.now ≡ decimal d = s.1 in
    let f : c.in-Some.parts.0.now ≡ decimal w = s.0 in
    let delay : decimal c.in-Some-number_in.delay ≡ decimal d = cc (c.in-Some-number_in.ensures.word) in
    let same : c.in-Some-number_in.delay ≡ d = decimal_injective c.in-Some-number_in.delay d (omega arith) (omega arith) delay in
    c.in-None-number_in-2.ensures.none w (omega arith) (omega arith) (cc)
