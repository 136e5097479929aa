use Rattle.mmt_headline.proofs.definitions_agree.sessions_start_alike.Goals as goal
use Rattle.mmt_headline.proofs.Sessions.{starts-alike as law}

pub returns : goal.returns
returns c = law
