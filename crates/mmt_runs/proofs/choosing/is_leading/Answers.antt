use Rattle.std.proofs.Common.{sym, ◌∙◌, ap}
use Rattle.mmt_model.specs.Handing.{precedes}
use Rattle.mmt_runs.specs.Order.{numbers_of}
use Rattle.mmt_runs.proofs.Better.{numbers_lent}
use Rattle.mmt_runs.proofs.choosing.is_leading.Goals as goal

pub returns-in-Some : goal.returns-in-Some
returns-in-Some c = rw c.in-Some.is (c.stands_before.ensures ∙ ap (precedes (numbers_of c.args.order.now)) (ap numbers_of c.order.ensures ∙ sym (numbers_lent c.in-Some.best)))
