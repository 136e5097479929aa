use Rattle.std.proofs.Common.{ℕ, ◌+◌, List, subst}
use Rattle.mmt_io.specs.Output.{only_noted, Put}
use Rattle.mmt_output.specs.declared.notes.Note.TheVariants as notes
use Rattle.mmt_naming.proofs.One.{on_ok, learned_none, lines_remark}
use Rattle.mmt_naming.proofs.entries.take_name.Goals as goal

pub returns-in-Refused-clause-names : goal.returns-in-Refused-clause-names
returns-in-Refused-clause-names g c = rw c.in-Refused.is (on_ok c.tell.result (learned_none c.args.by.now.clock.0 c.args.names.now))

pub returns-in-Refused-clause-put : goal.returns-in-Refused-clause-put
returns-in-Refused-clause-put g c = λ told.
    let P : List ℕ → Type 0 = λ x. Put (g.P.Port.history c.args.port.now) (g.P.Port.history c.tell.new.port) (only_noted x) c.tell.result in
    rw c.in-Refused.is
    (subst P (lines_remark c.args.by.now.place c.args.by.now.clock.0 c.args.names.now.entries (notes.Times c.args.spot.message (c.args.spot.at + c.in-Refused.at) c.in-Refused.why)) (c.tell.ensures.put told))
