use Rattle.std.proofs.Common.{◌≡◌, ◌+◌, ◌*◌, ◌%◌, ◌^◌, ◌≤◌, length}
use Rattle.mmt_ip.specs.Sum.{word_sum}
use Rattle.mmt_ip.proofs.sum.wide_sum.Given as goal

abbrev pub invariant-loop-chunk : goal.invariant-loop-chunk
invariant-loop-chunk l = ((256 * l.total + word_sum l.rest) % 65535 ≡ word_sum l.bytes % 65535) × (l.total + 2 ^ 64 * length l.rest ≤ 2 ^ 64 * length l.bytes)

abbrev pub decreases-loop-chunk : goal.decreases-loop-chunk
decreases-loop-chunk l = length l.rest
