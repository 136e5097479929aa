use Rattle.std.proofs.Common.{◌≡◌, ◌≤◌, ◌-◌, length, map}
use Rattle.mmt_cast.specs.Placing.{all_mpus, all_units}
use Rattle.mmt_casting.proofs.MpusSent.{mpu_sent_at}
use Rattle.mmt_casting.specs.Places.{IsSpot}
use Rattle.mmt_model.specs.Carrying.{numbers}
use Rattle.mmt_casting.proofs.mpus.mpus_of.Given as goal

abbrev pub invariant-loop-spot : goal.invariant-loop-spot
invariant-loop-spot l = record {
  spot : IsSpot l.programme l.spot;
  first : l.spot.unit ≡ 0;
  mpus : l.mpus.items ≡ map (mpu_sent_at l.programme) (numbers 0 l.spot.mpu_place);
  places : l.spot.mpu_place ≤ length (all_mpus l.programme);
  within : l.spot.unit_place ≤ length (all_units l.programme);
}

abbrev pub decreases-loop-spot : goal.decreases-loop-spot
decreases-loop-spot l = length (all_units l.programme) - l.spot.unit_place
