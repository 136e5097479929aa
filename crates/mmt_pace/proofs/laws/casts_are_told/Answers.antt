use Rattle.mmt_pace.proofs.Told.{casts-are-told}
use Rattle.mmt_pace.proofs.laws.casts_are_told.Goals as goal

pub returns : goal.returns
returns c = casts-are-told
