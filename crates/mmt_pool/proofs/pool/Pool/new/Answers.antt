use Rattle.std.proofs.Common.{refl, arith}
use Rattle.mmt_pool.specs.Holding.{IsInOrder}
use Rattle.mmt_pool.proofs.Tying.{tied-none}
use Rattle.mmt_pool.proofs.pool.Pool.new.Goals as goal

pub invariant_of-result : goal.invariant_of-result
unfolding IsInOrder
invariant_of-result c = rw c.new.ensures.empty (record { sound = record { within_peak = omega arith; within_bound = omega arith; in_order = tt; keepable = tt }; sum = refl; tied = rw c.new-2.ensures tied-none })
