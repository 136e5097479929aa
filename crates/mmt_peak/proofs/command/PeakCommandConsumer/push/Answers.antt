use Rattle.std.proofs.Common.{sym, subst, ◌∙◌}
use Rattle.mmt_model.specs.Delivery.{newest_first}
use Rattle.mmt_peak.specs.Commanding.{HasSeen}
use Rattle.mmt_peak.proofs.Ends.{stays}
use Rattle.mmt_model.proofs.Newest.{newest_more}
use Rattle.mmt_peak.proofs.command.PeakCommandConsumer.push.Goals as goal

pub returns-in-Ok-clause-pushed : goal.returns-in-Ok-clause-pushed
returns-in-Ok-clause-pushed g c = λ told packets packet stood fits is at. (
  subst (λ l. HasSeen l c.next.new.self) (sym (newest_more packets packet))
      (c.in-Ok.ensures.seen (newest_first packets) packet fits is (subst (λ s. HasSeen (newest_first packets) s) (sym (c.deref_mut.ensures.value ∙ c.self.view_is)) stood)),
  stays _,
)
