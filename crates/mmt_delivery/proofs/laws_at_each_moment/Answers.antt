use Rattle.mmt_delivery.proofs.laws_at_each_moment.Goals as goal
use Rattle.mmt_delivery.proofs.Theorem.{at_each_moment}

pub returns : goal.returns
returns c = at_each_moment
