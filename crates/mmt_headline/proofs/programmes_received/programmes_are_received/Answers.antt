use Rattle.mmt_headline.proofs.programmes_received.programmes_are_received.Goals as goal
use Rattle.mmt_headline.proofs.Received.{programmes-received as law}

pub returns : goal.returns
returns c = law c.delivery_theorem.ensures
