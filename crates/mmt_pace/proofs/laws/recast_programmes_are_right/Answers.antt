use Rattle.mmt_pace.proofs.Delivered.{recast-right}
use Rattle.mmt_pace.proofs.laws.recast_programmes_are_right.Goals as goal

pub returns : goal.returns
returns c = recast-right
