use Rattle.mmt_frag.proofs.cutting.parts_are_one_unit.Goals as goal
use Rattle.mmt_frag.proofs.Joining.{one-unit}

pub returns : goal.returns
returns c = one-unit
