use Rattle.std.proofs.Common.{[], ◌∷◌, ◌++◌, sym, subst}
use Rattle.mmt_model.specs.Delivery.{newest_first}
use Rattle.mmt_model.proofs.Newest.{newest_more}
use Rattle.mmt_stream.proofs.Consumers.{gathers, stops}
use Rattle.mmt_gate.specs.Flows.{Options, headers}
use Rattle.mmt_gate.specs.Keeping.{HasSqueezed}
use Rattle.mmt_gate.specs.Shrinking.{squeezed}
use Rattle.mmt_gateway.specs.Gathering.{of_gathered}
use Rattle.mmt_gateway.specs.Noting.{squeeze_note}
use Rattle.mmt_gateway.specs.Passing.{passed, passed_one}
use Rattle.mmt_gateway.specs.PassingGrows.{passed_next, squeezing_grows}
use Rattle.mmt_gateway.proofs.squeeze.SqueezeCommandConsumer.push.Goals as goal

pub returns-in-Ok-clause-pushed : goal.returns-in-Ok-clause-pushed
returns-in-Ok-clause-pushed g c = λ told packets packet stood fits is at.
    let options : Options = c.args.self.shrinker.options in (
      subst (λ l. HasSqueezed (headers l) c.next.new.self.shrinker) (sym (newest_more packets packet)) (c.in-Ok.ensures.next (newest_first packets) packet fits is stood),
      gathers _ (of_gathered c.args.self.gathered) (of_gathered c.next.new.self.gathered) (passed (squeezed options) squeeze_note packets)
          (passed (squeezed options) squeeze_note (packets ++ packet ∷ []))
          (passed_one (squeezed options) squeeze_note c.args.place (newest_first packets) packet) (c.in-Ok.ensures.gathers (newest_first packets) packet fits is stood)
          (passed_next (squeezed options) squeeze_note packets packet c.args.place at),
    )

pub returns-in-Err-clause-pushed : goal.returns-in-Err-clause-pushed
returns-in-Err-clause-pushed g c = λ told packets packet stood fits is at.
    let options : Options = c.args.self.shrinker.options in
    stops _ (of_gathered c.args.self.gathered) (passed (squeezed options) squeeze_note packets) (passed (squeezed options) squeeze_note (packets ++ packet ∷ []))
    ((squeezing_grows options).more packets (packet ∷ []))
