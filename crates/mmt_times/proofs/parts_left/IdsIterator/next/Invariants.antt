use Rattle.std.proofs.Common.{◌≡◌, length}
use Rattle.mmt_mpt.specs.LocationsLeft.{locations_left}
use Rattle.mmt_times.specs.NamesLeft.{ids_left}
use Rattle.mmt_times.proofs.parts_left.IdsIterator.next.Given as goal

abbrev pub invariant-loop-packet_id : goal.invariant-loop-packet_id
invariant-loop-packet_id l = ids_left l.self ≡ ids_left l.initial.self

abbrev pub decreases-loop-packet_id : goal.decreases-loop-packet_id
decreases-loop-packet_id l = length (locations_left l.self.locations)
