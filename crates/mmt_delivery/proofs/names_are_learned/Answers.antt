use Rattle.mmt_delivery.proofs.names_are_learned.Goals as goal
use Rattle.mmt_delivery.proofs.Told.{names_learned}

pub returns : goal.returns
returns c = names_learned
