use Rattle.mmt_headline.proofs.programmes_received.receivers_keep_to.Goals as goal
use Rattle.mmt_headline.proofs.Keeping.{keeps-to as law}

pub returns : goal.returns
returns c = law
