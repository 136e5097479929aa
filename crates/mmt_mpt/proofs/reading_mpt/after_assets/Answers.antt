use Rattle.std.proofs.Common.{◌∙◌, sym, arith}
use Rattle.mmt_mpt.proofs.TableSteps.{assets_stop, assets_rest, assets_count}
use Rattle.mmt_mpt.proofs.reading_mpt.after_assets.Goals as goal

pub loop-number-preserved : goal.loop-number-preserved
loop-number-preserved c = record {
  stop = sym (assets_stop c.args.count c.loop-number.number c.loop-number.at c.loop-number.rest.now _ c.loop-number-test.true c.in-Ok.ensures.gives) ∙ c.loop-number.invariant.stop;
  rest = sym (assets_rest c.args.count c.loop-number.number c.loop-number.at c.loop-number.rest.now _ c.loop-number-test.true c.in-Ok.ensures.gives) ∙ c.loop-number.invariant.rest;
  counts = omega (arith, assets_count c.args.count c.loop-number.number c.loop-number.at c.loop-number.rest.now _ c.loop-number-test.true c.in-Ok.ensures.gives, c.loop-number.invariant.counts);
  places = omega (arith, c.in-Ok.ensures.shorter, c.loop-number.invariant.places);
  shorter = omega (arith, c.in-Ok.ensures.shorter, c.loop-number.invariant.shorter);
}
