use Rattle.std.proofs.Common.{◌≡◌, map, drop}
use Rattle.mmt_times.specs.SlotView.{slot_entry}
use Rattle.mmt_times.specs.Known.{entry_of}
use Rattle.mmt_times.proofs.names.find.Given as goal

abbrev pub invariant-loop-slot : goal.invariant-loop-slot
invariant-loop-slot l = entry_of (map slot_entry (drop l.slot-index l.slots)) l.packet_id l.mpu ≡ entry_of (map slot_entry l.slots) l.packet_id l.mpu
