use Rattle.mmt_cast.proofs.worked_plans_compute.Goals as goal
use Rattle.mmt_cast.proofs.Computing.{worked_plans_compute}

pub returns : goal.returns
returns c = worked_plans_compute
