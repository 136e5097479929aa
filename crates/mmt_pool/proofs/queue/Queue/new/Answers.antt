use Rattle.std.proofs.Common.{refl, ◌≡◌, true, false}
use Rattle.mmt_pool.specs.Queue.{IsRow}
use Rattle.mmt_pool.proofs.queue.Queue.new.Goals as goal

pub invariant_of-result : goal.invariant_of-result
unfolding IsRow
invariant_of-result c = rw (c.new.ensures.items, c.new-2.ensures.empty) (record { rising = tt; apart = λ q h. refl; row_short = λ q h. absurd cc; strays_short = λ q h. absurd cc })
