use Rattle.std.proofs.Common.{◌∙◌, sym}
use Rattle.mmt_times.proofs.Readers.{mpus_stop}
use Rattle.mmt_times.proofs.reading_extended.check_mpus.Goals as goal

pub loop-rest-preserved : goal.loop-rest-preserved
loop-rest-preserved c = sym (mpus_stop c.args.each c.loop-rest.rest.now _ c.in_ok-after.ensures.gives) ∙ c.loop-rest.invariant
