use Rattle.mmt_headline.proofs.definitions_agree.sessions_are_alike.Goals as goal
use Rattle.mmt_headline.proofs.Sessions.{sessions-alike as law}

pub returns : goal.returns
returns c = law
