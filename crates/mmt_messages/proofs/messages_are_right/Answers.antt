use Rattle.mmt_messages.proofs.messages_are_right.Goals as goal
use Rattle.mmt_messages.proofs.Messages.{messages-right}

pub returns : goal.returns
returns c = messages-right
