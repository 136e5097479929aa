use Rattle.mmt_casting.proofs.Spots.{first-spot}
use Rattle.mmt_casting.proofs.places.Spot.first.Goals as goal

pub returns-clause-spot : goal.returns-clause-spot
returns-clause-spot c = first-spot
