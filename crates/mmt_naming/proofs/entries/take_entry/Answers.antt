use Rattle.std.proofs.Common.{◌∙◌, sym, subst, ap, ℕ, List}
use Rattle.std.specs.List.{flat_map}
use Rattle.mmt_runs.specs.Told.{IsTold}
use Rattle.mmt_times.specs.Known.{Known}
use Rattle.mmt_times.specs.EntryView.{view_entry}
use Rattle.mmt_times.specs.Learning.{Verdict}
use Rattle.mmt_times.specs.LearnedView.{view_learned}
use Rattle.mmt_times.proofs.Learning.{added}
use Rattle.mmt_output.specs.Notes.{note_text}
use Rattle.mmt_io.specs.Output.{only_noted, Put, Puts}
use Rattle.mmt_output.proofs.Putting.{puts_nothing}
use Rattle.mmt_naming.proofs.One.{on_ok, unchanged, learned_one, lines_one}
use Rattle.mmt_naming.proofs.entries.take_entry.Goals as goal

pub returns-in-Ok-clause-told : goal.returns-in-Ok-clause-told
returns-in-Ok-clause-told g c =
    let P : ℕ → Type 0 = λ b. IsTold c.args.runs.now c.args.pool.now.kept (record { entries = c.args.names.now.entries; sample_base = b }) in
    let l = c.in-New.ensures in
    c.in-Ok.ensures.told c.args.names.now.entries (view_entry c.args.entry.now) (subst P (sym l.same) c.requires.told)
    (l.entries ∙ added c.args.by.now.clock.0 c.args.names.now.entries (view_entry c.args.entry.now) (sym l.answer))
    (sym c.packet_id.ensures) (sym c.mpu.ensures)

pub returns-in-Ok-clause-names : goal.returns-in-Ok-clause-names
returns-in-Ok-clause-names g c =
    let l = c.in-New.ensures in
    learned_one c.args.by.now.clock.0 c.args.message (view_entry c.args.entry.now) c.args.names.now _ l.entries l.same

pub returns-in-Ok-clause-put : goal.returns-in-Ok-clause-put
returns-in-Ok-clause-put g c = λ told.
    let h = g.P.Port.history c.args.port.now in
    let P : List ℕ → Type 0 = λ x. Puts h h (only_noted x) in
    subst P (lines_one c.args.by.now.place c.args.by.now.clock.0 c.args.message c.args.names.now.entries (view_entry c.args.entry.now) Verdict.New c.in-New.ensures.answer) (puts_nothing h)

pub returns-in_default-clause-told : goal.returns-in_default-clause-told
returns-in_default-clause-told g c =
    let l = c.learn-learned.ensures in
    let P : Known → Type 0 = λ k. IsTold c.args.runs.now c.args.pool.now.kept k in
    on_ok c.tell_any.result (subst P (sym (unchanged c.learn-learned.result c.args.names.now c.learn-learned.new.self c.in_default.not-New l.unchanged)) c.requires.told)

pub returns-in_default-clause-names : goal.returns-in_default-clause-names
returns-in_default-clause-names g c =
    let l = c.learn-learned.ensures in
    on_ok c.tell_any.result (learned_one c.args.by.now.clock.0 c.args.message (view_entry c.args.entry.now) c.args.names.now c.learn-learned.new.self l.entries l.same)

pub returns-in_default-clause-put : goal.returns-in_default-clause-put
returns-in_default-clause-put g c = λ told.
    let P : List ℕ → Type 0 = λ x. Put (g.P.Port.history c.args.port.now) (g.P.Port.history c.tell_any.new.port) (only_noted x) c.tell_any.result in
    subst P (ap (flat_map (note_text c.args.by.now.place)) c.remark.ensures
    ∙ lines_one c.args.by.now.place c.args.by.now.clock.0 c.args.message c.args.names.now.entries (view_entry c.args.entry.now) (view_learned c.learn-learned.result) c.learn-learned.ensures.answer)
    (c.tell_any.ensures.put told)
