use Rattle.mmt_messages.proofs.messages_are_found.Goals as goal
use Rattle.mmt_messages.proofs.Found.{messages-found as law}

pub returns : goal.returns
returns c = law
