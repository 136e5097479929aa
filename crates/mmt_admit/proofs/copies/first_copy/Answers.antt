use Rattle.std.proofs.Common.{length, arith}
use Rattle.mmt_admit.proofs.Walking.{walk-begins, walk-found, walk-passed}
use Rattle.mmt_model.specs.Admission.{fault_of_copy}
use Rattle.mmt_admit.proofs.copies.first_copy.Goals as goal

pub loop-c-init : goal.loop-c-init
loop-c-init c = walk-begins (fault_of_copy c.args.cast.now)

pub returns-then-is_some : goal.returns-then-is_some
returns-then-is_some c =
    walk-found (fault_of_copy c.args.cast.now) c.loop-c.c (length c.args.cast.now.copies) c.copy_fault-found.result c.loop-c.invariant c.copy_fault-found.ensures c.if-is_some.ensures (omega arith)

pub loop-c-preserved : goal.loop-c-preserved
loop-c-preserved c = walk-passed (fault_of_copy c.args.cast.now) c.loop-c.c c.copy_fault-found.result c.loop-c.invariant c.copy_fault-found.ensures c.if-is_some.ensures
