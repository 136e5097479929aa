use Rattle.std.proofs.Common.{◌≡◌, arith, decimal, get_or, take, drop, length, ap, sym, ◌∙◌, length-take}
use Rattle.std.proofs.lemmas.Str.{IsCharBoundary-after_ascii}
use Rattle.std.proofs.lemmas.Fmt.{decimal_injective}
use Rattle.mmt_command.proofs.FlowTexts.{front_of, colon_of, port_of, length_of, parts}
use Rattle.mmt_command.proofs.flows.flow_of.Goals as goal

pub returns-then-bytes-lt33-clause-none : goal.returns-then-bytes-lt33-clause-none
returns-then-bytes-lt33-clause-none c = λ f range is. omega (arith, length_of f, ap length is, c.as_bytes-bytes.ensures.len)

pub returns-then-bytes-ne58-clause-none : goal.returns-then-bytes-ne58-clause-none
returns-then-bytes-ne58-clause-none c = λ f range is. c.if-bytes-ne58.true (ap (λ x. get_or x 32 0) (c.as_bytes-bytes.ensures.value ∙ is) ∙ colon_of f)

pub slice_bounds-address_of-end : goal.slice_bounds-address_of-end
slice_bounds-address_of-end c = omega (arith, length-take 32 c.as_bytes-bytes.result.now)

pub address_of-requires : goal.address_of-requires
address_of-requires c = omega (arith, length-take 32 c.as_bytes-bytes.result.now)

pub returns-in-None-clause-none : goal.returns-in-None-clause-none
returns-in-None-clause-none c = λ f range is. c.in-None.ensures.none f.address (ap (λ x. take 32 x) (c.as_bytes-bytes.ensures.value ∙ is) ∙ front_of f)

pub range_from-requires : goal.range_from-requires
range_from-requires c =
    let b : get_or c.args.word.now 32 0 ≡ 58 = ap (λ x. get_or x 32 0) (sym c.as_bytes-bytes.ensures.value) ∙ c.if-bytes-ne58.false in
    λ some. IsCharBoundary-after_ascii c.args.word.now 32 c.utf8.word (omega arith) (omega arith)

pub returns-in-None-number_in-clause-none : goal.returns-in-None-number_in-clause-none
returns-in-None-number_in-clause-none c = λ f range is.
    c.in-None-number_in.ensures.none f.port range.port_low (omega arith) (c.range_from.ensures.value ∙ (ap (λ x. drop 33 x) is ∙ port_of f))

pub returns-then-port-eq-NTP_PORT-clause-none : goal.returns-then-port-eq-NTP_PORT-clause-none
returns-then-port-eq-NTP_PORT-clause-none c = λ f range is.
    let e : decimal c.in-Some-number_in.port ≡ decimal f.port = sym c.in-Some-number_in.ensures.word ∙ (c.range_from.ensures.value ∙ (ap (λ x. drop 33 x) is ∙ port_of f)) in
    let s : c.in-Some-number_in.port ≡ f.port = decimal_injective c.in-Some-number_in.port f.port (omega arith) (omega arith) e in
    range.not_ntp (sym s ∙ c.if-port-eq-NTP_PORT.true)

pub returns-clause-some : goal.returns-clause-some
returns-clause-some c =
    let b : get_or c.args.word.now 32 0 ≡ 58 = ap (λ x. get_or x 32 0) (sym c.as_bytes-bytes.ensures.value) ∙ c.if-bytes-ne58.false in
    parts c.args.word.now (record { address = c.in-Some.address; port = c.in-Some-number_in.port }) (omega arith) (ap (λ x. take 32 x) (sym c.as_bytes-bytes.ensures.value) ∙ c.in-Some.ensures.some) b
    (sym c.range_from.ensures.value ∙ c.in-Some-number_in.ensures.word)
