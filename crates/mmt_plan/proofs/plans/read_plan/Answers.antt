use Rattle.mmt_plan.proofs.Outcomes.{ended, loaded}
use Rattle.mmt_plan.proofs.plans.read_plan.Goals as goal

pub returns-in-Err-clause-plan : goal.returns-in-Err-clause-plan
returns-in-Err-clause-plan g c = ended (g.H.Shelf.tells c.args.shelf.now) (g.H.Shelf.file c.args.shelf.now c.args.name.now) c.in-Err.end c.in-Err.ensures.bytes

pub returns-clause-plan : goal.returns-clause-plan
returns-clause-plan g c =
    loaded (g.H.Shelf.tells c.args.shelf.now) (g.H.Shelf.file c.args.shelf.now c.args.name.now) c.in-Ok.bytes.items c.programme_in.result c.in-Ok.ensures.bytes (rw c.deref.ensures.value at c.programme_in.ensures.value)
