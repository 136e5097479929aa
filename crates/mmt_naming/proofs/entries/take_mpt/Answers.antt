use Rattle.std.proofs.Common.{ℕ, ◌+◌, List, subst}
use Rattle.mmt_io.specs.Output.{only_noted, Put}
use Rattle.mmt_output.specs.declared.notes.Note.TheVariants as notes
use Rattle.mmt_naming.proofs.One.{on_ok, learned_none, lines_remark}
use Rattle.mmt_naming.proofs.Places.{names_in_table}
use Rattle.mmt_mpt.specs.TableView.{view}
use Rattle.mmt_naming.proofs.entries.take_mpt.Goals as goal

pub take_names-requires-clause-places : goal.take_names-requires-clause-places
take_names-requires-clause-places g c = rw c.entries_of-entries.ensures (names_in_table c.args.by.now.timescale (view c.in-Ok.mpt) c.in-Ok.ensures.found.0)

pub returns-in-Err-clause-names : goal.returns-in-Err-clause-names
returns-in-Err-clause-names g c = rw c.in-Err.ensures.exact (on_ok c.tell.result (learned_none c.args.by.now.clock.0 c.args.names.now))

pub returns-in-Err-clause-put : goal.returns-in-Err-clause-put
returns-in-Err-clause-put g c = λ told.
    let P : List ℕ → Type 0 = λ x. Put (g.P.Port.history c.args.port.now) (g.P.Port.history c.tell.new.port) (only_noted x) c.tell.result in
    let e = c.in-Err.refused in
    rw c.in-Err.ensures.exact (subst P (lines_remark c.args.by.now.place c.args.by.now.clock.0 c.args.names.now.entries (notes.Mpt c.args.spot.message (c.args.spot.at + e.at) e.why)) (c.tell.ensures.put told))
