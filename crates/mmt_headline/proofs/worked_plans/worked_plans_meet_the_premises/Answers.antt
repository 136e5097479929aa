use Rattle.mmt_headline.proofs.worked_plans.worked_plans_meet_the_premises.Goals as goal
use Rattle.mmt_headline.proofs.WorkedPlans.{met}

pub returns : goal.returns
returns c = met
