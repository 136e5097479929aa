use Rattle.mmt_headline.proofs.whole_casts.units_are_presented.Goals as goal
use Rattle.mmt_headline.proofs.WholeCasts.{units-presented}

pub returns : goal.returns
returns c = units-presented
