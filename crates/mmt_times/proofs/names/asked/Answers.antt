use Rattle.std.proofs.Common.{rules, sym, map}
use Rattle.std.proofs.lemmas.List.{length-map}
use Rattle.mmt_times.specs.SlotView.{slot_entry}
use Rattle.mmt_times.specs.EntryView.{view_entry}
use Rattle.mmt_times.proofs.Learning.{past, known, differs, crowded, fresh}
use Rattle.mmt_times.proofs.names.asked.Goals as goal

pub returns-then-is_past : goal.returns-then-is_past
returns-then-is_past c = sym (past c.args.clock.0 (map slot_entry c.args.slots.now) (view_entry c.args.entry.now) (search rules))

pub returns-then-has_times_of : goal.returns-then-has_times_of
returns-then-has_times_of c = sym (known c.args.clock.0 (map slot_entry c.args.slots.now) (view_entry c.args.entry.now) (slot_entry c.in-Some.kept.now) (search rules) (search rules) (search rules))

pub returns-in-Some : goal.returns-in-Some
returns-in-Some c = sym (differs c.args.clock.0 (map slot_entry c.args.slots.now) (view_entry c.args.entry.now) (slot_entry c.in-Some.kept.now) (search rules) (search rules) (search rules))

pub returns-then-slots-ge1024 : goal.returns-then-slots-ge1024
returns-then-slots-ge1024 c = sym (crowded c.args.clock.0 (map slot_entry c.args.slots.now) (view_entry c.args.entry.now) (search rules) (search rules) (rw (length-map c.args.slots.now slot_entry) (search rules)))

pub returns : goal.returns
returns c = sym (fresh c.args.clock.0 (map slot_entry c.args.slots.now) (view_entry c.args.entry.now) (search rules) (search rules) (rw (length-map c.args.slots.now slot_entry) (search rules)))
