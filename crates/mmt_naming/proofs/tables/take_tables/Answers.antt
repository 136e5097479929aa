use Rattle.std.proofs.Common.{◌≡◌, ◌<◌, ◌^◌, ◌+◌, ◌∙◌, refl, sym, subst, ap, length, slice_index, arith}
use Rattle.std.specs.Prelude.{IsTrue}
use Rattle.std.proofs.lemmas.List.Elements.{All-tail}
use Rattle.mmt_io.proofs.Sends.{sends_both}
use Rattle.mmt_sig.specs.TableView.{view_table}
use Rattle.mmt_sig.specs.MessageView.{tables_left}
use Rattle.mmt_naming.specs.Findings.{findings_of_table, findings_of_tables}
use Rattle.mmt_naming.specs.Lines.{lines_of}
use Rattle.mmt_naming.proofs.Several.{tables_more, tables_none}
use Rattle.mmt_naming.proofs.Whole.{learned_step, lines_step, lines_stop, learned_end, lines_end}
use Rattle.mmt_naming.proofs.tables.take_tables.Goals as goal

pub loop-table-preserved : goal.loop-table-preserved
loop-table-preserved g c =
    let i = c.loop-table.invariant in
    let e = c.in-Ok.ensures in
    let n = c.in-Some.ensures.steps in
    let timescale = c.args.by.now.timescale in
    let message = c.args.spot.message in
    let now = c.args.by.now.clock.0 in
    let place = c.args.by.now.place in
    let t = view_table c.in-Some.table in
    let at = c.loop-table.at in
    let rest = tables_left c.next.new.self in
    let all = findings_of_tables timescale message c.args.spot.at (tables_left c.args.tables) in
    let whole = findings_of_tables timescale message at (tables_left c.loop-table.table-iterator) in
    let here = findings_of_table timescale message at t in
    let left = findings_of_tables timescale message (at + length t.bytes) rest in
    let split = ap (findings_of_tables timescale message at) n ∙ tables_more timescale message at (at + length t.bytes) t rest refl in
    record {
      sends = sends_both i.sends e.sends;
      fits =
          let shorter : length t.bytes < 2 ^ 17 = (rw n at i.within) 0 t (omega arith) in
          omega (arith, shorter, ap length n, i.fits);
      within = All-tail (λ x. length x.bytes < 2 ^ 17) _ _ (rw n at i.within);
      begin = All-tail (λ x. slice_index x.bytes 0 ≡ x.id) _ _ (rw n at i.begin);
      told = e.told;
      names = learned_step now c.args.names.now c.loop-table.names c.take_table.new.names all whole here left split i.names e.names;
      begun = λ told.
          lines_step place now _ _ _ (lines_of place now c.args.names.now.entries all) c.loop-table.names c.take_table.new.names whole here left split (i.begun told) e.names (e.put (subst IsTrue (sym i.sends.telling) told));
    }

pub returns-in-Err-clause-put : goal.returns-in-Err-clause-put
returns-in-Err-clause-put g c = λ told.
    let i = c.loop-table.invariant in
    let n = c.in-Some.ensures.steps in
    let timescale = c.args.by.now.timescale in
    let message = c.args.spot.message in
    let now = c.args.by.now.clock.0 in
    let place = c.args.by.now.place in
    let t = view_table c.in-Some.table in
    let at = c.loop-table.at in
    let rest = tables_left c.next.new.self in
    let all = findings_of_tables timescale message c.args.spot.at (tables_left c.args.tables) in
    let whole = findings_of_tables timescale message at (tables_left c.loop-table.table-iterator) in
    let here = findings_of_table timescale message at t in
    let left = findings_of_tables timescale message (at + length t.bytes) rest in
    lines_stop place now _ _ _ (lines_of place now c.args.names.now.entries all) c.loop-table.names whole here left (ap (findings_of_tables timescale message at) n ∙ tables_more timescale message at (at + length t.bytes) t rest refl) (i.begun told)
    (c.in-Err.ensures.put (subst IsTrue (sym i.sends.telling) told))

pub returns-clause-names : goal.returns-clause-names
returns-clause-names g c =
    let of = findings_of_tables c.args.by.now.timescale c.args.spot.message in
    learned_end c.args.by.now.clock.0 c.args.names.now c.loop-table.names (of c.args.spot.at (tables_left c.args.tables)) (of c.loop-table.at (tables_left c.loop-table.table-iterator))
    (ap (of c.loop-table.at) c.in-None.ensures.steps.0 ∙ tables_none c.args.by.now.timescale c.args.spot.message c.loop-table.at) c.loop-table.invariant.names

pub returns-clause-put : goal.returns-clause-put
returns-clause-put g c = λ told.
    let of = findings_of_tables c.args.by.now.timescale c.args.spot.message in
    lines_end c.args.by.now.place c.args.by.now.clock.0 _ _ (lines_of c.args.by.now.place c.args.by.now.clock.0 c.args.names.now.entries (of c.args.spot.at (tables_left c.args.tables))) c.loop-table.names (of c.loop-table.at (tables_left c.loop-table.table-iterator))
    (ap (of c.loop-table.at) c.in-None.ensures.steps.0 ∙ tables_none c.args.by.now.timescale c.args.spot.message c.loop-table.at) (c.loop-table.invariant.begun told)
