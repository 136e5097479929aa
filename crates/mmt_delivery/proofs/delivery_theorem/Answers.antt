use Rattle.mmt_delivery.proofs.delivery_theorem.Goals as goal
use Rattle.mmt_delivery.proofs.Theorem.{theorem}

pub returns : goal.returns
returns c = theorem
