use Rattle.std.proofs.Common.{length, arith, refl, sym, Some, None}
use Rattle.mmt_admit.proofs.Calming.{none-calm}
use Rattle.mmt_admit.proofs.Keys.{few-live}
use Rattle.mmt_admit.proofs.Walking.{walk-begins, walk-found, walk-passed}
use Rattle.mmt_model.specs.Admission.{fault_of_live}
use Rattle.mmt_admit.proofs.live.first_live.Goals as goal

pub returns-then-len-le1024 : goal.returns-then-len-le1024
returns-then-len-le1024 c = sym (few-live c.args.cast.now (length c.args.cast.now.copies) (omega arith))

pub loop-c-init : goal.loop-c-init
loop-c-init c = (walk-begins (fault_of_live c.args.cast.now), none-calm c.args.cast.now.mpus (record { low = 1; high = 0; step = 65536 }) (omega arith))

pub returns-in-Err : goal.returns-in-Err
returns-in-Err c = walk-found (fault_of_live c.args.cast.now) c.loop-c.c (length c.args.cast.now.copies) (Some c.in-Err.found) c.loop-c.invariant.0 c.in-Err.ensures.fault refl (omega arith)

pub loop-c-preserved : goal.loop-c-preserved
loop-c-preserved c = (walk-passed (fault_of_live c.args.cast.now) c.loop-c.c None c.loop-c.invariant.0 (sym c.in-Ok.ensures.none) refl, c.in-Ok.ensures.calm)
