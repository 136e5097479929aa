use Rattle.mmt_headline.proofs.whole_casts.whole_casts_are_expected.Goals as goal
use Rattle.mmt_headline.proofs.WholeCasts.{whole-casts}

pub returns : goal.returns
returns c = whole-casts
