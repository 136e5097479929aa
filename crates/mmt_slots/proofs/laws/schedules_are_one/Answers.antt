use Rattle.mmt_slots.proofs.Only.{only-one}
use Rattle.mmt_slots.proofs.laws.schedules_are_one.Goals as goal

pub returns : goal.returns
returns c = only-one
