use Rattle.mmt_cast.proofs.programmes_are_delivered.Goals as goal
use Rattle.mmt_cast.proofs.Headline.{delivered as law}

pub returns : goal.returns
returns c = law c.delivery_theorem.ensures
