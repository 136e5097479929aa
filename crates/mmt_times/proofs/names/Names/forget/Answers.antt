use Rattle.std.proofs.Common.{rules}
use Rattle.mmt_times.proofs.OneEach.{one-forget}
use Rattle.mmt_times.proofs.Quietness.{quiet-forget}
use Rattle.mmt_times.proofs.names.Names.forget.Goals as goal

pub invariant_of-self : goal.invariant_of-self
invariant_of-self c = (search rules, search rules, search rules, rw c.keep.ensures.entries (one-forget _ _ _ c.self.invariant.3), rw c.deref.ensures.value at c.quiet_slots-self-inside.ensures, search rules)

pub invariant_of-self-else-not-is_within : goal.invariant_of-self-else-not-is_within
invariant_of-self-else-not-is_within c = (search rules, search rules, search rules, rw c.keep.ensures.entries (one-forget _ _ _ c.self.invariant.3), rw c.keep.ensures.entries (quiet-forget _ _ _ _ _ c.self.invariant.4), c.self.invariant.5)
