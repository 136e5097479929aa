use Rattle.std.proofs.Common.{[], ◌∷◌, ◌++◌, sym, subst}
use Rattle.mmt_model.specs.Delivery.{newest_first}
use Rattle.mmt_model.proofs.Newest.{newest_more}
use Rattle.mmt_hear.specs.Views.{HasHeard}
use Rattle.mmt_stream.proofs.Consumers.{gathers, stops}
use Rattle.mmt_gate.specs.Expanding.{expanded}
use Rattle.mmt_gateway.specs.Gathering.{of_gathered}
use Rattle.mmt_gateway.specs.Noting.{expand_note}
use Rattle.mmt_gateway.specs.Passing.{passed, passed_one}
use Rattle.mmt_gateway.specs.PassingGrows.{passed_next, expanding_grows}
use Rattle.mmt_gateway.proofs.expand.ExpandCommandConsumer.push.Goals as goal

pub returns-in-Ok-clause-pushed : goal.returns-in-Ok-clause-pushed
returns-in-Ok-clause-pushed g c = λ told packets packet stood fits is at. (
  subst (λ l. HasHeard l c.next.new.self.expander) (sym (newest_more packets packet)) (c.in-Ok.ensures.next (newest_first packets) packet fits is stood),
  gathers _ (of_gathered c.args.self.gathered) (of_gathered c.next.new.self.gathered) (passed expanded expand_note packets) (passed expanded expand_note (packets ++ packet ∷ []))
      (passed_one expanded expand_note c.args.place (newest_first packets) packet) (c.in-Ok.ensures.gathers (newest_first packets) packet fits is stood)
      (passed_next expanded expand_note packets packet c.args.place at),
)

pub returns-in-Err-clause-pushed : goal.returns-in-Err-clause-pushed
returns-in-Err-clause-pushed g c = λ told packets packet stood fits is at.
    stops _ (of_gathered c.args.self.gathered) (passed expanded expand_note packets) (passed expanded expand_note (packets ++ packet ∷ [])) (expanding_grows.more packets (packet ∷ []))
