use Rattle.mmt_headline.proofs.take_runs.take_gives_back.Goals as goal
use Rattle.mmt_headline.proofs.GivesBack.{gives-back}

pub returns : goal.returns
returns c = gives-back c.takes_delivery.ensures c.takes_a_start.ensures c.programmes_are_received.ensures c.receivers_have_room.ensures c.streams_are_quiet.ensures
