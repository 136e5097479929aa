use Rattle.mmt_messages.proofs.sent_is_received.Goals as goal
use Rattle.mmt_messages.proofs.Headline.{received}

pub returns : goal.returns
returns c = received c.programmes_are_delivered.ensures c.messages_are_right.ensures
