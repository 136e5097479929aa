use Rattle.mmt_delivery.proofs.close_timestamps_are_near.Goals as goal
use Rattle.mmt_delivery.proofs.Delivering.{short_near}

pub returns : goal.returns
returns c = short_near
