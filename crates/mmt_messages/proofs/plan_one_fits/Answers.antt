use Rattle.mmt_messages.proofs.plan_one_fits.Goals as goal
use Rattle.mmt_messages.proofs.Fitting.{plan_one_fits}

pub returns : goal.returns
returns c = plan_one_fits
