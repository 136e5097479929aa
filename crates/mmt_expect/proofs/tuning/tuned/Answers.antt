use Rattle.std.proofs.Common.{ap, sym, ◌∙◌, subst}
use Rattle.std.proofs.lemmas.List.{take_rest}
use Rattle.mmt_model.specs.Delivery.{from_first}
use Rattle.mmt_model.specs.Received.{tuned_places, tunes_at}
use Rattle.mmt_model.specs.Survival.{AreOf}
use Rattle.mmt_expect.proofs.Starting.{of-drop}
use Rattle.mmt_expect.proofs.tuning.tuned.Goals as goal

pub first_parameters-requires : goal.first_parameters-requires
first_parameters-requires c =
    subst (AreOf c.args.cast.now.packets) (sym (take_rest c.args.list.now c.first_heard.result)) (of-drop c.args.cast.now.packets c.args.list.now c.first_heard.result c.requires)

pub returns : goal.returns
unfolding tuned_places
returns c =
    take_rest _ c.first_parameters.result
    ∙ (c.first_parameters.ensures.rest
    ∙ ap (from_first (tunes_at c.args.cast.now)) (take_rest c.args.list.now c.first_heard.result ∙ c.first_heard.ensures.rest))
