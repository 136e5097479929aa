use Rattle.mmt_pace.proofs.Fitting.{paced-readable}
use Rattle.mmt_pace.proofs.laws.paced_casts_are_readable.Goals as goal

pub returns : goal.returns
returns c = paced-readable
