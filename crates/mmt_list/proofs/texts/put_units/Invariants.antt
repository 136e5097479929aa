use Rattle.std.proofs.Common.{◌≡◌, ◌+◌, ◌*◌, ◌≤◌, ◌++◌, length, vec_len, vec_capacity}
use Rattle.mmt_mpu.specs.View.{view, units_left}
use Rattle.mmt_list.specs.Text.{units_text}
use Rattle.mmt_list.proofs.texts.put_units.Given as goal

abbrev pub invariant-loop-unit : goal.invariant-loop-unit
invariant-loop-unit l = record {
  items : l.out.items ++ units_text (units_left l.unit-iterator) ≡ l.initial.out.items ++ units_text (view l.payload).units;
  len : vec_len l.out + 160 * length (units_left l.unit-iterator) ≤ vec_len l.initial.out + 160 * length (view l.payload).units;
  capacity : vec_capacity l.initial.out ≤ vec_capacity l.out;
}
