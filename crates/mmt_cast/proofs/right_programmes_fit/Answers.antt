use Rattle.mmt_cast.proofs.right_programmes_fit.Goals as goal
use Rattle.mmt_cast.proofs.FromRight.{right-programmes-fit}

pub returns : goal.returns
returns c = right-programmes-fit
