use Rattle.mmt_headline.proofs.definitions_agree.packets_tune_alike.Goals as goal
use Rattle.mmt_headline.proofs.Tunes.{tunes-alike as law}

pub returns : goal.returns
returns c = law
