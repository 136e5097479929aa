use Rattle.std.proofs.Common.{◌≡◌, ◌≤◌, ◌+◌, ◌-◌, ◌*◌, length}
use Rattle.mmt_cast.specs.Placing.{all_units}
use Rattle.mmt_casting.proofs.Sendings.{packets_in}
use Rattle.mmt_casting.specs.Places.{IsSpot, sendings_from}
use Rattle.mmt_casting.proofs.counting.media_packets.Given as goal

abbrev pub invariant-loop-spot : goal.invariant-loop-spot
invariant-loop-spot l = record {
  spot : IsSpot l.programme l.spot;
  count : packets_in l.programme (sendings_from l.programme 0) ≡ l.count + packets_in l.programme (sendings_from l.programme l.spot.unit_place);
  few : l.count ≤ l.spot.unit_place * 16777216;
  within : l.spot.unit_place ≤ length (all_units l.programme);
}

abbrev pub decreases-loop-spot : goal.decreases-loop-spot
decreases-loop-spot l = length (all_units l.programme) - l.spot.unit_place
