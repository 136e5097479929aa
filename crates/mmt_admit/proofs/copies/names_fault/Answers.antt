use Rattle.std.proofs.Common.{ap, ◌∙◌}
use Rattle.mmt_admit.proofs.Keys.{among-begins, among-found, among-passed}
use Rattle.mmt_model.specs.Admission.{fault_of_name, first_among}
use Rattle.mmt_admit.proofs.copies.names_fault.Goals as goal

pub loop-i-init : goal.loop-i-init
loop-i-init c = among-begins (fault_of_name c.args.cast.now c.args.c) c.copy_names-names.result.now

pub returns-then-is_some : goal.returns-then-is_some
returns-then-is_some c =
    among-found (fault_of_name c.args.cast.now c.args.c) c.copy_names-names.result.now c.loop-i.i c.name_fault-found.result c.loop-i.invariant c.name_fault-found.ensures c.if-is_some.ensures c.loop-i-test.true
    ∙ ap (first_among (fault_of_name c.args.cast.now c.args.c)) c.copy_names-names.ensures

pub loop-i-preserved : goal.loop-i-preserved
loop-i-preserved c =
    among-passed (fault_of_name c.args.cast.now c.args.c) c.copy_names-names.result.now c.loop-i.i c.name_fault-found.result c.loop-i.invariant c.name_fault-found.ensures c.if-is_some.ensures c.loop-i-test.true
