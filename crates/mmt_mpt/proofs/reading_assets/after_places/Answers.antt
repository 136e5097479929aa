use Rattle.std.proofs.Common.{◌∙◌, sym, arith}
use Rattle.mmt_lists.proofs.CountedSteps.{stop_more, rest_more}
use Rattle.mmt_mpt.specs.AssetReading.{place_at}
use Rattle.mmt_mpt.proofs.reading_assets.after_places.Goals as goal

pub loop-left-preserved : goal.loop-left-preserved
loop-left-preserved c = record {
  stop = sym (stop_more place_at c.loop-left.left c.loop-left.at c.loop-left.rest.now _ (omega arith) c.in_ok-after.ensures.gives) ∙ c.loop-left.invariant.stop;
  rest = sym (rest_more place_at c.loop-left.left c.loop-left.at c.loop-left.rest.now _ (omega arith) c.in_ok-after.ensures.gives) ∙ c.loop-left.invariant.rest;
  places = omega (arith, c.in_ok-after.ensures.shorter, c.loop-left.invariant.places);
  shorter = omega (arith, c.in_ok-after.ensures.shorter, c.loop-left.invariant.shorter);
}
