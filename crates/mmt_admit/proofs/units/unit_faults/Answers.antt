use Rattle.std.proofs.Common.{sym}
use Rattle.mmt_admit.specs.Faults.{as_fault}
use Rattle.mmt_admit.proofs.Walking.{walk-begins, walk-more}
use Rattle.mmt_model.specs.Admission.{fault_of_key, fault_of_unit}
use Rattle.mmt_admit.proofs.units.unit_faults.Goals as goal

pub loop-u-init : goal.loop-u-init
loop-u-init c = record {
  due = sym (walk-begins (fault_of_unit c.args.cast.now));
  key = sym (walk-begins (fault_of_key c.args.cast.now));
}

pub loop-u-preserved : goal.loop-u-preserved
loop-u-preserved c = record {
  due = walk-more (fault_of_unit c.args.cast.now) c.loop-u.u (as_fault c.loop-u.due) (as_fault c.unit_by-due.result) c.loop-u.invariant.due c.unit_by-due.ensures;
  key = walk-more (fault_of_key c.args.cast.now) c.loop-u.u (as_fault c.loop-u.key) (as_fault c.key_by-key.result) c.loop-u.invariant.key c.key_by-key.ensures;
}
