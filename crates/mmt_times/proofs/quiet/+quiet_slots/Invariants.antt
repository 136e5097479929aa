use Rattle.std.proofs.Common.{length}
use Rattle.mmt_times.proofs.quiet.+quiet_slots.Given as goal

abbrev pub decreases-quiet_slots : goal.decreases-quiet_slots
decreases-quiet_slots l = length l.slots.now
