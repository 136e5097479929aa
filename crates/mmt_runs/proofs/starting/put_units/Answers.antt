use Rattle.std.proofs.Common.{refl, arith, ap, length}
use Rattle.mmt_runs.proofs.Indexing.{key-keeps}
use Rattle.mmt_runs.proofs.starting.put_units.Goals as goal

pub loop-unit-preserved : goal.loop-unit-preserved
loop-unit-preserved c =
    let i = c.loop-unit.invariant in
    record {
      count = omega (arith, i.count, ap length c.in-Some.ensures.steps);
      keeps = λ d h. c.put_unit.ensures.keeps d (i.keeps d h);
      put = λ more k rest. i.put more (λ d h. k d (c.put_unit.ensures.keeps d h)) (rw c.in-Some.ensures.steps (key-keeps c.put_unit.new.index.keys more c.args.names.now c.args.span c.head-mpu.result.mpu c.loop-unit.place c.in-Some.unit.key (λ q e h. k q h) (c.if-not-put_unit.ensures.put refl), rest));
    }
