use Rattle.mmt_cli.proofs.PacedBack.{paced_sendable}
use Rattle.mmt_cli.proofs.paced_back.what_is_paced_can_be_received.Goals as goal

pub returns : goal.returns
returns c = paced_sendable
