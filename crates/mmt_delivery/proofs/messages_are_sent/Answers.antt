use Rattle.mmt_delivery.proofs.messages_are_sent.Goals as goal
use Rattle.mmt_delivery.proofs.Told.{messages_sent}

pub returns : goal.returns
returns c = messages_sent
