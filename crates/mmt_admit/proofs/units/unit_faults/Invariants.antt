use Rattle.std.proofs.Common.{◌≡◌}
use Rattle.mmt_admit.specs.Faults.{as_fault}
use Rattle.mmt_model.specs.Admission.{fault_of_key, fault_of_unit, first_below}
use Rattle.mmt_admit.proofs.units.unit_faults.Given as goal

abbrev pub invariant-loop-u : goal.invariant-loop-u
invariant-loop-u l = record {
  due : as_fault l.due ≡ first_below (fault_of_unit l.cast) l.u;
  key : as_fault l.key ≡ first_below (fault_of_key l.cast) l.u;
}
