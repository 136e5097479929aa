use Rattle.mmt_headline.proofs.whole_casts.take_gives_all_back.Goals as goal
use Rattle.mmt_headline.proofs.WholeCasts.{gives-all}

pub returns : goal.returns
returns c = gives-all c.take_gives_back.ensures c.whole_casts_are_expected.ensures
