use Rattle.mmt_cli.proofs.SentBack.{given_all_back}
use Rattle.mmt_cli.proofs.sent_back.take_gives_back_what_mux_sent.Goals as goal

pub returns : goal.returns
returns c = given_all_back c.what_is_sent_can_be_received.ensures c.take_gives_all_back.ensures
