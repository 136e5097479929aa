use Rattle.mmt_headline.proofs.definitions_agree.units_are_alike.Goals as goal
use Rattle.mmt_headline.proofs.Joining.{units-alike as law}

pub returns : goal.returns
returns c = law
