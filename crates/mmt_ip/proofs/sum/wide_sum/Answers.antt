use Rattle.std.proofs.Common.{ℕ, ◌+◌, ◌*◌, ◌/◌, ◌%◌, ◌^◌, ◌≤◌, length, ap, ◌∙◌, arith}
use Rattle.mmt_ip.specs.Sum.{word_sum}
use Rattle.mmt_ip.proofs.Words.{next_sixteen}
use Rattle.mmt_ip.proofs.sum.wide_sum.Goals as goal

pub loop-chunk-preserved : goal.loop-chunk-preserved
loop-chunk-preserved c =
    let split = c.in-Some.ensures.cases in
    let long : 16 ≤ length c.loop-chunk.rest.now = omega (arith, split.2) in
    let e = next_sixteen c.loop-chunk.total c.loop-chunk.rest.now c.in-Some.chunk.now c.in-Some.after.now split.0 split.1 long in (
      ap (λ (n : ℕ). (256 * (c.loop-chunk.total + (n / 2 ^ 64 + n % 2 ^ 64)) + word_sum c.in-Some.after.now) % 65535) c.from_le_bytes-words.ensures ∙ e ∙ c.loop-chunk.invariant.0,
      omega (arith, split.2),
    )
