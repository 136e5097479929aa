use Rattle.std.proofs.Common.{rules, arith, ◌≡◌, ◌<◌, length, refl, sym, ◌∙◌, ap, map, ◌++◌, ◌∷◌, []}
use Rattle.std.proofs.lemmas.List.{length-map}
use Rattle.mmt_times.specs.SlotView.{slot_entry}
use Rattle.mmt_times.specs.EntryView.{view_entry}
use Rattle.mmt_times.specs.Learning.{Verdict, verdict}
use Rattle.mmt_times.proofs.Quietness.{none-quiet}
use Rattle.mmt_times.proofs.OneEach.{one-push, new-other, new-room}
use Rattle.mmt_times.proofs.Learning.{added, kept, the_same}
use Rattle.mmt_times.proofs.names.Names.learn.Goals as goal

pub returns-in-New-clause-entries : goal.returns-in-New-clause-entries
returns-in-New-clause-entries c =
    rw (← c.self.view_is) (
    c.add.ensures.entries
    ∙ ap (λ e. map slot_entry c.self.inside.slots.items ++ e ∷ []) c.of.ensures
    ∙ sym (added c.args.clock.0 (map slot_entry c.self.inside.slots.items) (view_entry c.args.entry.now) (search rules)))

pub returns : goal.returns
returns c = record {
  answer = rw (← c.self.view_is) (rw c.deref.ensures.value at c.asked-answer.ensures);
  entries = rw (← c.self.view_is) (kept c.args.clock.0 (map slot_entry c.self.inside.slots.items) (view_entry c.args.entry.now) c.asked-answer.result (rw c.deref.ensures.value at c.asked-answer.ensures) c.in_default.not-New);
  same = refl;
  unchanged = the_same c.asked-answer.result c.args.self.now;
  bounded = rw (← c.self.view_is, length-map c.self.inside.slots.items slot_entry) (search rules);
}

pub invariant_of-self : goal.invariant_of-self
invariant_of-self c =
    let v : verdict c.args.clock.0 (map slot_entry c.self.inside.slots.items) (view_entry c.args.entry.now) ≡ Verdict.New = sym (rw c.deref.ensures.value at c.in-New.ensures) in
    let room : length (map slot_entry c.self.inside.slots.items) < 1024 = new-room c.args.clock.0 (map slot_entry c.self.inside.slots.items) (view_entry c.args.entry.now) v in
    (search rules, omega (arith, room, length-map c.self.inside.slots.items slot_entry), search rules, rw (c.add.ensures.entries, c.of.ensures) (one-push (view_entry c.args.entry.now) (map slot_entry c.self.inside.slots.items) c.self.invariant.3 (new-other _ _ _ v)), none-quiet _ _, c.self.invariant.5)
