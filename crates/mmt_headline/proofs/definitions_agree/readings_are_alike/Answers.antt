use Rattle.mmt_headline.proofs.definitions_agree.readings_are_alike.Goals as goal
use Rattle.mmt_headline.proofs.Joining.{reads-alike as law}

pub returns : goal.returns
returns c = law
