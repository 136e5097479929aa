use Rattle.std.proofs.Common.{◌≡◌, ◌+◌, ◌*◌, ◌≤◌, length}
use Rattle.mmt_ip.specs.Sum.{word_sum}
use Rattle.mmt_ip.proofs.sum.short_sum.Given as goal

abbrev pub invariant-loop-rest : goal.invariant-loop-rest
invariant-loop-rest l = (l.total + word_sum l.rest ≡ word_sum l.bytes) × (l.total + 65535 * length l.rest ≤ 65535 * length l.bytes)

abbrev pub decreases-loop-rest : goal.decreases-loop-rest
decreases-loop-rest l = length l.rest
