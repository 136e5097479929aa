use Rattle.std.proofs.Common.{◌≡◌, List, sym, subst, ◌∙◌}
use Rattle.mmt_model.specs.Delivery.{newest_first}
use Rattle.mmt_io.specs.Output.{Puts, PutsPrefix}
use Rattle.mmt_tune.specs.Tuning.{Placed}
use Rattle.mmt_recv.specs.Receiving.{State, Stands, more}
use Rattle.mmt_take.specs.Taking.{placed}
use Rattle.mmt_take.proofs.Places.{placed_next}
use Rattle.mmt_take.proofs.Turns.{pushes, pushes_start}
use Rattle.mmt_take.proofs.command.TakeCommandConsumer.push.Goals as goal

pub returns-in-Ok-clause-pushed : goal.returns-in-Ok-clause-pushed
returns-in-Ok-clause-pushed g c = λ told packets packet stood fits is at.
    let ps : List Placed = placed (newest_first packets) in
    let same : c.deref_mut.result.now ≡ c.args.self = c.deref_mut.ensures.value ∙ c.self.view_is in
    let before : Stands c.deref_mut.result.now ps = subst (λ s. Stands s ps) (sym same) stood in
    let put = subst (λ (s : State). Puts (g.P.Port.history c.args.port.now) (g.P.Port.history c.receive.new.port) (more s.config ps (record { place = c.args.place; packet = packet }))) same
    (c.in-Ok.ensures.put told ps packet before fits is) in (
      subst (λ l. Stands c.receive.new.self l) (sym (placed_next c.args.place packets packet at)) (c.in-Ok.ensures.stands ps packet before fits is),
      pushes c.args.self.config c.args.place packets packet _ _ at put,
    )

pub returns-in-Err-clause-pushed : goal.returns-in-Err-clause-pushed
returns-in-Err-clause-pushed g c = λ told packets packet stood fits is at.
    let ps : List Placed = placed (newest_first packets) in
    let same : c.deref_mut.result.now ≡ c.args.self = c.deref_mut.ensures.value ∙ c.self.view_is in
    let before : Stands c.deref_mut.result.now ps = subst (λ s. Stands s ps) (sym same) stood in
    let put = subst (λ (s : State). PutsPrefix (g.P.Port.history c.args.port.now) (g.P.Port.history c.receive.new.port) (more s.config ps (record { place = c.args.place; packet = packet }))) same
    (c.in-Err.ensures.put told ps packet before fits is) in
    pushes_start c.args.self.config c.args.place packets packet _ _ at put
