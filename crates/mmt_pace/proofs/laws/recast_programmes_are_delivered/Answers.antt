use Rattle.mmt_pace.proofs.Delivered.{recast-delivered}
use Rattle.mmt_pace.proofs.laws.recast_programmes_are_delivered.Goals as goal

pub returns : goal.returns
returns c = recast-delivered c.delivery_theorem.ensures
