use Rattle.mmt_cli.proofs.SentBack.{reached}
use Rattle.mmt_cli.proofs.sent_back.what_is_sent_is_reached.Goals as goal

pub returns : goal.returns
returns c = reached c.what_is_sent_can_be_received.ensures
