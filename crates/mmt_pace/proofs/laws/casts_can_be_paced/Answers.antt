use Rattle.mmt_pace.proofs.Asking.{casts-can-be-paced}
use Rattle.mmt_pace.proofs.laws.casts_can_be_paced.Goals as goal

pub returns : goal.returns
returns c = casts-can-be-paced
