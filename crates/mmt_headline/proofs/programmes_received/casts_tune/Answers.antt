use Rattle.mmt_headline.proofs.programmes_received.casts_tune.Goals as goal
use Rattle.mmt_headline.proofs.CastTuning.{casts-tune as law}

pub returns : goal.returns
returns c = law
