use Rattle.mmt_sig.specs.TableView.{view_table}
use Rattle.mmt_naming.proofs.Several.{other_table}
use Rattle.mmt_naming.proofs.Whole.{nothing_learned, nothing_put}
use Rattle.mmt_naming.proofs.tables.take_table.Goals as goal

pub returns-then-table-ne-MPT-clause-names : goal.returns-then-table-ne-MPT-clause-names
returns-then-table-ne-MPT-clause-names g c =
    nothing_learned c.args.by.now.clock.0 c.args.names.now _ (other_table c.args.by.now.timescale c.args.spot.message c.args.spot.at (view_table c.args.table.now) c.if-table-ne-MPT.true)

pub returns-then-table-ne-MPT-clause-put : goal.returns-then-table-ne-MPT-clause-put
returns-then-table-ne-MPT-clause-put g c = λ told.
    nothing_put c.args.by.now.place c.args.by.now.clock.0 c.args.names.now _ (g.P.Port.history c.args.port.now) (other_table c.args.by.now.timescale c.args.spot.message c.args.spot.at (view_table c.args.table.now) c.if-table-ne-MPT.true)
