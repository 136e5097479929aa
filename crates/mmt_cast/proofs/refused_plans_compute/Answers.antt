use Rattle.mmt_cast.proofs.refused_plans_compute.Goals as goal
use Rattle.mmt_cast.proofs.Computing.{refused_plans_compute as law}

pub returns : goal.returns
returns c = law
