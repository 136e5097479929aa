use Rattle.std.proofs.Common.{arith}
use Rattle.mmt_expect.proofs.Starting.{of-each}
use Rattle.mmt_trial.proofs.tests.are_of.Goals as goal

pub returns : goal.returns
returns c = λ yes. of-each c.args.packets.now c.args.list.now (λ k l. c.loop-i.invariant k (omega arith))
