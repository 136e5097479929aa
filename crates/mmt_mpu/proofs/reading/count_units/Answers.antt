use Rattle.std.proofs.Common.{◌∙◌, sym, arith}
use Rattle.mmt_mpu.specs.Head.{view_unit}
use Rattle.mmt_mpu.proofs.Walk.{stop_step, count_step}
use Rattle.mmt_mpu.proofs.reading.count_units.Goals as goal

pub loop-rest-preserved : goal.loop-rest-preserved
loop-rest-preserved c = record {
  stop = sym (stop_step c.args.timed c.loop-rest.place c.loop-rest.rest.now _ c.in_ok-unit.ensures.gives) ∙ c.loop-rest.invariant.stop;
  units = omega (arith, count_step c.args.timed c.loop-rest.place c.loop-rest.rest.now (view_unit c.in_ok-unit.unit, c.in_ok-unit.after.now) c.in_ok-unit.ensures.gives, c.loop-rest.invariant.units);
  places = omega (arith, c.in_ok-unit.ensures.end, c.loop-rest.invariant.places);
  few = omega (arith, c.in_ok-unit.ensures.shorter, c.loop-rest.invariant.few);
}
