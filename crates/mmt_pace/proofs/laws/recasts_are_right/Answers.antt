use Rattle.mmt_pace.proofs.Again.{recasts-are-right}
use Rattle.mmt_pace.proofs.laws.recasts_are_right.Goals as goal

pub returns : goal.returns
returns c = recasts-are-right
