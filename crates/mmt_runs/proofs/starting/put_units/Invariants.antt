use Rattle.std.proofs.Common.{◌≡◌, ◌+◌, List, map, length}
use Rattle.mmt_mpu.specs.View.{view, units_left}
use Rattle.mmt_runs.specs.declared.index.Due.{Due}
use Rattle.mmt_runs.specs.Index.{HasEach, Keeps}
use Rattle.mmt_runs.specs.Reading.{data_unit_of}
use Rattle.mmt_runs.proofs.starting.put_units.Given as goal

abbrev pub invariant-loop-unit : goal.invariant-loop-unit
invariant-loop-unit l = record {
  count : l.place + length (units_left l.unit-iterator) ≡ l.count;
  keeps : Keeps l.initial.index.keys l.index.keys;
  put : (more : List Due) → Keeps l.index.keys more → HasEach more l.names l.span l.mpu l.place (map data_unit_of (units_left l.unit-iterator))
      → HasEach more l.names l.span l.mpu 0 (map data_unit_of (view l.payload).units);
}
