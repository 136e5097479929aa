use Rattle.mmt_headline.proofs.definitions_agree.deliveries_are_received.Goals as goal
use Rattle.mmt_headline.proofs.Joining.{deliveries-are-received as law}

pub returns : goal.returns
returns c = law c.delivery_theorem.ensures
