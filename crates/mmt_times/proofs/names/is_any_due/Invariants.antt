use Rattle.std.proofs.Common.{◌≡◌, map, drop}
use Rattle.std.specs.List.{list_any}
use Rattle.mmt_times.specs.SlotView.{slot_entry}
use Rattle.mmt_times.specs.Known.{has_due}
use Rattle.mmt_times.proofs.names.is_any_due.Given as goal

abbrev pub invariant-loop-slot : goal.invariant-loop-slot
invariant-loop-slot l = list_any (has_due l.from.0 l.to.0) (map slot_entry (drop l.slot-index l.slots)) ≡ list_any (has_due l.from.0 l.to.0) (map slot_entry l.slots)
