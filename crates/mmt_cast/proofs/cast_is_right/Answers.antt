use Rattle.mmt_cast.proofs.cast_is_right.Goals as goal
use Rattle.mmt_cast.proofs.Theorem.{cast-right as law}

pub returns : goal.returns
returns c = law
