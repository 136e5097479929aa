use Rattle.mmt_plan.proofs.Fronts.{ended}
use Rattle.mmt_desk.proofs.loading.load.Goals as goal

pub returns-in-Err-clause-bytes : goal.returns-in-Err-clause-bytes
returns-in-Err-clause-bytes g c = ended (g.H.Shelf.tells c.args.shelf.now) (g.H.Shelf.file c.args.shelf.now c.args.name.now)
