use Rattle.mmt_sent.proofs.plan_one_computes.Goals as goal
use Rattle.mmt_sent.proofs.Computing.{computed}

pub returns : goal.returns
returns c = computed
