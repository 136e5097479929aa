use Rattle.mmt_headline.proofs.programmes_received.casts_are_sent.Goals as goal
use Rattle.mmt_headline.proofs.Sent.{casts-sent as law}

pub returns : goal.returns
returns c = law
