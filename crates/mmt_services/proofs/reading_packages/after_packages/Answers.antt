use Rattle.std.proofs.Common.{◌∙◌, sym, arith}
use Rattle.mmt_lists.proofs.CountedSteps.{stop_more, rest_more}
use Rattle.mmt_services.specs.PackageReading.{package_at}
use Rattle.mmt_services.proofs.reading_packages.after_packages.Goals as goal

pub loop-left-preserved : goal.loop-left-preserved
loop-left-preserved c = record {
  stop = sym (stop_more package_at c.loop-left.left c.loop-left.at c.loop-left.rest.now _ (omega arith) c.in_ok-after.ensures.gives) ∙ c.loop-left.invariant.stop;
  rest = sym (rest_more package_at c.loop-left.left c.loop-left.at c.loop-left.rest.now _ (omega arith) c.in_ok-after.ensures.gives) ∙ c.loop-left.invariant.rest;
  places = omega (arith, c.in_ok-after.ensures.shorter, c.loop-left.invariant.places);
  shorter = omega (arith, c.in_ok-after.ensures.shorter, c.loop-left.invariant.shorter);
}
