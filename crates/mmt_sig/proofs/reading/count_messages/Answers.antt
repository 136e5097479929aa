use Rattle.std.proofs.Common.{◌∙◌, sym, arith}
use Rattle.mmt_sig.proofs.MessageSteps.{stop_step, count_step}
use Rattle.mmt_sig.proofs.reading.count_messages.Goals as goal

pub loop-rest-preserved : goal.loop-rest-preserved
loop-rest-preserved c = record {
  stop = sym (stop_step c.args.long c.loop-rest.place c.loop-rest.rest.now _ c.in_ok-after.ensures.gives) ∙ c.loop-rest.invariant.stop;
  messages = omega (arith, count_step c.args.long c.loop-rest.place c.loop-rest.rest.now _ c.in_ok-after.ensures.gives, c.loop-rest.invariant.messages);
  places = omega (arith, c.in_ok-after.ensures.shorter, c.loop-rest.invariant.places);
  few = omega (arith, c.in_ok-after.ensures.shorter, c.loop-rest.invariant.few);
}
