use Rattle.std.proofs.Common.{◌≤◌, take}
use Rattle.std.specs.List.{All}
use Rattle.mmt_plan.specs.Files.{EndsBy}
use Rattle.mmt_plan.proofs.checks.end_of_units.Given as goal

abbrev pub invariant-loop-unit : goal.invariant-loop-unit
invariant-loop-unit l = record {
  some : 1 ≤ l.end;
  ends : All (EndsBy l.end) (take l.unit-index l.units);
}
