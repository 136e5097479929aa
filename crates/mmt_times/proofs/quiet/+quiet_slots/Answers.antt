use Rattle.std.proofs.Common.{map, subst, sym}
use Rattle.mmt_times.specs.Quiet.{IsQuiet}
use Rattle.mmt_times.specs.SlotView.{slot_entry}
use Rattle.mmt_times.proofs.Quietness.{more-entries}
use Rattle.mmt_times.proofs.quiet.+quiet_slots.Goals as goal

pub returns-in-Some : goal.returns-in-Some
returns-in-Some t c =
    subst (λ ss. IsQuiet c.args.clock.0 c.quiet_slot.result (map slot_entry ss)) (sym c.in-Some.ensures.cases.0)
    (more-entries c.args.clock.0 c.quiet_slots.result c.quiet_slot.result (slot_entry c.in-Some.slot.now) (map slot_entry c.in-Some.rest.now) c.quiet_slot.ensures.at_most c.quiet_slot.ensures.quiet c.quiet_slots.ensures)
