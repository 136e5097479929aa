use Rattle.mmt_pace.proofs.Stepping.{paced-one}
use Rattle.mmt_pace.proofs.laws.paced_casts_are_one.Goals as goal

pub returns : goal.returns
returns c = paced-one c.schedules_are_one.ensures
