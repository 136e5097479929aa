use Rattle.std.proofs.Common.{◌≡◌, ◌-◌, ◌<◌, None, length}
use Rattle.mmt_model.specs.Admission.{fault_of_load, first_below}
use Rattle.mmt_model.specs.Survival.{sent_at}
use Rattle.mmt_admit.proofs.Sliding.{IsWindow}
use Rattle.mmt_admit.proofs.loads.first_load.Given as goal

abbrev pub invariant-loop-end : goal.invariant-loop-end
invariant-loop-end l = IsWindow l.packets l.window l.now l.start l.end l.bytes

abbrev pub decreases-loop-end : goal.decreases-loop-end
decreases-loop-end l = length l.packets - l.end

abbrev pub invariant-loop-start : goal.invariant-loop-start
invariant-loop-start l = IsWindow l.packets l.window l.now l.start l.end l.bytes × (l.end < length l.packets → l.now < sent_at l.packets l.end)

abbrev pub decreases-loop-start : goal.decreases-loop-start
decreases-loop-start l = l.end - l.start

abbrev pub invariant-loop-n : goal.invariant-loop-n
invariant-loop-n l = (first_below (fault_of_load l.cast) l.n ≡ None) × (l.n < length l.packets → IsWindow l.packets l.window (sent_at l.packets l.n) l.start l.end l.bytes)
