use Rattle.std.proofs.Common.{◌≡◌, ◌≤◌, length}
use Rattle.std.specs.List.{filter}
use Rattle.mmt_expect.specs.Found.{is_found}
use Rattle.mmt_model.specs.Expected.{places}
use Rattle.mmt_expect.proofs.counting.expected_units.Given as goal

abbrev pub invariant-loop-unit : goal.invariant-loop-unit
invariant-loop-unit l = record {
  count : l.count ≡ length (filter (is_found l.cast l.found) (places l.unit));
  few : l.count ≤ l.unit;
}
