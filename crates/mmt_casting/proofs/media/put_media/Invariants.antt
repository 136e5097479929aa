use Rattle.std.proofs.Common.{◌≤◌, ◌-◌, length}
use Rattle.mmt_cast.specs.Placing.{all_units}
use Rattle.mmt_casting.proofs.Progress.{IsSent}
use Rattle.mmt_casting.specs.Places.{IsSpot}
use Rattle.mmt_casting.proofs.media.put_media.Given as goal

abbrev pub invariant-loop-spot : goal.invariant-loop-spot
invariant-loop-spot l = record {
  spot : IsSpot l.programme l.spot;
  sent : IsSent l.programme l.spot l.number l.packets.items l.units.items;
  within : l.spot.unit_place ≤ length (all_units l.programme);
}

abbrev pub decreases-loop-spot : goal.decreases-loop-spot
decreases-loop-spot l = length (all_units l.programme) - l.spot.unit_place
