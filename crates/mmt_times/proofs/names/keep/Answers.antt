use Rattle.std.proofs.Common.{rules, ap, ◌∙◌, map, not}
use Rattle.std.proofs.lemmas.Fn.{filter_same}
use Rattle.mmt_base.specs.Ticks.{low, is_passed}
use Rattle.mmt_model.specs.Entries.{last_due}
use Rattle.mmt_times.specs.SlotView.{slot_entry}
use Rattle.mmt_times.proofs.Slots.{forget_map}
use Rattle.mmt_times.proofs.names.keep.Goals as goal

pub returns-clause-entries : goal.returns-clause-entries
returns-clause-entries c =
    let e = filter_same _ (λ s. not (is_passed (low (last_due (slot_entry s))) c.args.from.0 c.args.to.0)) _ (λ x b f' k. search rules) _ _ c.retain.ensures.filtered in
    ap (map slot_entry) e ∙ forget_map slot_entry c.args.from.0 c.args.to.0 c.args.slots.now.items
