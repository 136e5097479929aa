use Rattle.std.proofs.Common.{arith, rules}
use Rattle.mmt_times.specs.Known.{HasOneEach}
use Rattle.mmt_times.proofs.Quietness.{none-quiet}
use Rattle.mmt_times.proofs.names.Names.new.Goals as goal

pub invariant_of-result : goal.invariant_of-result
unfolding HasOneEach
invariant_of-result c = (search rules, search rules, search rules, rw c.in_ok-slots.ensures.items tt, none-quiet 0 _, omega arith)
