use Rattle.mmt_headline.proofs.programmes_received.streams_are_framed.Goals as goal
use Rattle.mmt_headline.proofs.Framed.{streams-framed as law}

pub returns : goal.returns
returns c = law
