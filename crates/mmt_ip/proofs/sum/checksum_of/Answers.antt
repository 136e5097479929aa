use Rattle.std.proofs.Common.{ℕ, ◌+◌, ◌-◌, ◌*◌, ◌%◌, length, arith, ap, sym, ◌∙◌, List}
use Rattle.mmt_fields.specs.Reading.{big_endian}
use Rattle.mmt_ip.specs.Sum.{word_sum}
use Rattle.mmt_ip.proofs.Words.{checksum_is, total_is}
use Rattle.mmt_ip.proofs.sum.checksum_of.Goals as goal

pub returns : goal.returns
unfolding big_endian
returns c =
    let h = c.args.header.now in
    let payload = c.args.payload.now in
    let e = checksum_is h payload (λ i. omega (arith, c.type_inv.payload i)) (omega arith) (omega arith) (omega arith) in
    let source = c.wide_sum.ensures.sum ∙ ap (λ (bytes : List ℕ). word_sum bytes % 65535) c.to_be_bytes.ensures in
    let destination = c.wide_sum-2.ensures.sum ∙ ap (λ (bytes : List ℕ). word_sum bytes % 65535) c.to_be_bytes-2.ensures in
    let total = total_is h payload c.wide_sum.result c.wide_sum-2.result c.wide_sum-3.result source destination c.wide_sum-3.ensures.sum in
    ap (λ (n : ℕ). 65535 - (256 * n + (8 + length payload) + 17 + (h.source_port + h.destination_port) + (8 + length payload)) % 65535) c.folded.ensures
    ∙ ap (λ (n : ℕ). 65535 - n) total ∙ sym e
