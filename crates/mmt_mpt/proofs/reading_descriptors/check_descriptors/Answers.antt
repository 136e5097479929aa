use Rattle.std.proofs.Common.{◌∙◌, sym, arith}
use Rattle.mmt_mpt.proofs.DescriptorSteps.{stop_more}
use Rattle.mmt_mpt.proofs.reading_descriptors.check_descriptors.Goals as goal

pub loop-rest-preserved : goal.loop-rest-preserved
loop-rest-preserved c = record {
  stop = sym (stop_more c.loop-rest.at c.loop-rest.rest.now _ c.in_ok-after.ensures.gives) ∙ c.loop-rest.invariant.stop;
  places = omega (arith, c.in_ok-after.ensures.shorter, c.loop-rest.invariant.places);
}
