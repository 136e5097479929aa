use Rattle.mmt_cli.proofs.SentBack.{can_be_sent}
use Rattle.mmt_cli.proofs.sent_back.what_is_sent_can_be_received.Goals as goal

pub returns : goal.returns
returns c = can_be_sent
