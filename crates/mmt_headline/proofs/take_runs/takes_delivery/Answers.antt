use Rattle.mmt_headline.proofs.take_runs.takes_delivery.Goals as goal
use Rattle.mmt_headline.proofs.Taken.{takes as law}

pub returns : goal.returns
returns c = law c.programmes_are_received.ensures
