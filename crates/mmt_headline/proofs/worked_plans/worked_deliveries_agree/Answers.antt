use Rattle.mmt_headline.proofs.worked_plans.worked_deliveries_agree.Goals as goal
use Rattle.mmt_headline.proofs.WorkedDeliveries.{delivered}

pub returns : goal.returns
returns c = delivered c.programmes_are_received.ensures
