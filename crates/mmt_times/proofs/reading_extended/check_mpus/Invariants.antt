use Rattle.std.proofs.Common.{◌≡◌, length}
use Rattle.mmt_fields.specs.Items.{all_items}
use Rattle.mmt_times.specs.ExtendedReading.{mpu_at}
use Rattle.mmt_times.proofs.reading_extended.check_mpus.Given as goal

abbrev pub invariant-loop-rest : goal.invariant-loop-rest
invariant-loop-rest l = (all_items (mpu_at l.each) 0 l.rest).stop ≡ (all_items (mpu_at l.each) 0 l.bytes).stop

abbrev pub decreases-loop-rest : goal.decreases-loop-rest
decreases-loop-rest l = length l.rest
