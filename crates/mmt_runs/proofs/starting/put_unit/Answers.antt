use Rattle.std.proofs.Common.{refl}
use Rattle.mmt_runs.specs.Order.{numbers_of}
use Rattle.mmt_runs.proofs.starting.put_unit.Goals as goal

pub returns-clause-put : goal.returns-clause-put
unfolding numbers_of
returns-clause-put c = λ t. rw (← c.in-Some.ensures) (rw c.numbers-numbers.ensures at (c.put.ensures.put t))
