use Rattle.std.proofs.Common.{◌∙◌, sym}
use Rattle.mmt_sig.specs.MessageView.{view_pa, tables_left}
use Rattle.mmt_output.specs.declared.notes.Note.TheVariants as notes
use Rattle.mmt_naming.proofs.One.{on_ok}
use Rattle.mmt_naming.proofs.Several.{in_pa, in_same, in_differs, in_other, in_refused}
use Rattle.mmt_naming.proofs.Whole.{nothing_learned, nothing_put, remark_learned, remark_put, same_learned, same_put}
use Rattle.mmt_naming.proofs.messages.take_message.Goals as goal

pub returns-then-are_same-clause-names : goal.returns-then-are_same-clause-names
returns-then-are_same-clause-names g c =
    let is = rw c.in-Ok-Hrbm.field-0-is at c.in-Ok-Hrbm.ensures.exact in
    nothing_learned c.args.by.now.clock.0 c.args.names.now _ (in_same c.args.by.now.timescale c.args.by.now.tuned c.args.message c.args.bytes.now _ is (sym c.are_same.ensures ∙ c.if-are_same.true))

pub returns-then-are_same-clause-put : goal.returns-then-are_same-clause-put
returns-then-are_same-clause-put g c = λ told.
    let is = rw c.in-Ok-Hrbm.field-0-is at c.in-Ok-Hrbm.ensures.exact in
    nothing_put c.args.by.now.place c.args.by.now.clock.0 c.args.names.now _ (g.P.Port.history c.args.port.now) (in_same c.args.by.now.timescale c.args.by.now.tuned c.args.message c.args.bytes.now _ is (sym c.are_same.ensures ∙ c.if-are_same.true))

pub returns-in-Ok-Pa-clause-names : goal.returns-in-Ok-Pa-clause-names
returns-in-Ok-Pa-clause-names g c =
    let is = rw c.in-Ok-Pa.field-0-is at c.in-Ok-Pa.ensures.exact in
    same_learned c.args.by.now.clock.0 c.args.names.now c.take_tables.new.names _ _ c.take_tables.result
    (in_pa c.args.by.now.timescale c.args.by.now.tuned c.args.message c.args.bytes.now (view_pa c.in-Ok-Pa.pa) c.count.result (tables_left c.tables.result) is c.count.ensures c.tables.ensures.tables)
    c.take_tables.ensures.names

pub returns-in-Ok-Pa-clause-put : goal.returns-in-Ok-Pa-clause-put
returns-in-Ok-Pa-clause-put g c = λ told.
    let is = rw c.in-Ok-Pa.field-0-is at c.in-Ok-Pa.ensures.exact in
    same_put c.args.by.now.place c.args.by.now.clock.0 c.args.names.now _ _ _ _ c.take_tables.result
    (in_pa c.args.by.now.timescale c.args.by.now.tuned c.args.message c.args.bytes.now (view_pa c.in-Ok-Pa.pa) c.count.result (tables_left c.tables.result) is c.count.ensures c.tables.ensures.tables)
    (c.take_tables.ensures.put told)

pub returns-else-are_same-clause-names : goal.returns-else-are_same-clause-names
returns-else-are_same-clause-names g c =
    let is = rw c.in-Ok-Hrbm.field-0-is at c.in-Ok-Hrbm.ensures.exact in
    on_ok c.tell.result
    (remark_learned c.args.by.now.clock.0 c.args.names.now _ (notes.HrbmDiffers c.args.message) (in_differs c.args.by.now.timescale c.args.by.now.tuned c.args.message c.args.bytes.now _ is (sym c.are_same.ensures ∙ c.if-are_same.false)))

pub returns-else-are_same-clause-put : goal.returns-else-are_same-clause-put
returns-else-are_same-clause-put g c = λ told.
    let is = rw c.in-Ok-Hrbm.field-0-is at c.in-Ok-Hrbm.ensures.exact in
    remark_put c.args.by.now.place c.args.by.now.clock.0 c.args.names.now _ (notes.HrbmDiffers c.args.message) _ _ c.tell.result
    (in_differs c.args.by.now.timescale c.args.by.now.tuned c.args.message c.args.bytes.now _ is (sym c.are_same.ensures ∙ c.if-are_same.false)) (c.tell.ensures.put told)

pub returns-in-Ok-Other-clause-names : goal.returns-in-Ok-Other-clause-names
returns-in-Ok-Other-clause-names g c =
    let is = rw c.in-Ok-Other.field-0-is at c.in-Ok-Other.ensures.exact in
    nothing_learned c.args.by.now.clock.0 c.args.names.now _ (in_other c.args.by.now.timescale c.args.by.now.tuned c.args.message c.args.bytes.now _ _ is)

pub returns-in-Ok-Other-clause-put : goal.returns-in-Ok-Other-clause-put
returns-in-Ok-Other-clause-put g c = λ told.
    let is = rw c.in-Ok-Other.field-0-is at c.in-Ok-Other.ensures.exact in
    nothing_put c.args.by.now.place c.args.by.now.clock.0 c.args.names.now _ (g.P.Port.history c.args.port.now) (in_other c.args.by.now.timescale c.args.by.now.tuned c.args.message c.args.bytes.now _ _ is)

pub returns-in-Err-clause-names : goal.returns-in-Err-clause-names
returns-in-Err-clause-names g c =
    on_ok c.tell-in-Err.result
    (remark_learned c.args.by.now.clock.0 c.args.names.now _ _ (in_refused c.args.by.now.timescale c.args.by.now.tuned c.args.message c.args.bytes.now c.in-Err.refused c.in-Err.ensures.exact))

pub returns-in-Err-clause-put : goal.returns-in-Err-clause-put
returns-in-Err-clause-put g c = λ told.
    remark_put c.args.by.now.place c.args.by.now.clock.0 c.args.names.now _ _ _ _ c.tell-in-Err.result
    (in_refused c.args.by.now.timescale c.args.by.now.tuned c.args.message c.args.bytes.now c.in-Err.refused c.in-Err.ensures.exact) (c.tell-in-Err.ensures.put told)
