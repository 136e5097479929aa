use Rattle.mmt_delivery.proofs.only_late_and_repeats.Goals as goal
use Rattle.mmt_delivery.proofs.Theorem.{outcomes_are}

pub returns : goal.returns
returns c = outcomes_are
