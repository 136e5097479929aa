use Rattle.mmt_cli.proofs.PacedBack.{paced_reached}
use Rattle.mmt_cli.proofs.paced_back.what_is_paced_is_reached.Goals as goal

pub returns : goal.returns
returns c = paced_reached c.what_is_paced_can_be_received.ensures
