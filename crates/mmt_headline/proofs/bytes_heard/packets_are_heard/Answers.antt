use Rattle.mmt_headline.proofs.bytes_heard.packets_are_heard.Goals as goal
use Rattle.mmt_headline.proofs.Packets.{packets-heard as law}

pub returns : goal.returns
returns c = law
