use Rattle.mmt_frag.proofs.cutting.gathering_is_greatest.Goals as goal
use Rattle.mmt_frag.proofs.Fitting.{gathers-most as law}

pub returns : goal.returns
returns c = law
