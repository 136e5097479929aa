use Rattle.mmt_frag.proofs.cutting.cutting_is_gapless.Goals as goal
use Rattle.mmt_frag.proofs.Gapless.{cuts-without-gap as law}

pub returns : goal.returns
returns c = law
