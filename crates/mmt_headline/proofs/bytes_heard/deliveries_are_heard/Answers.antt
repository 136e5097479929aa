use Rattle.mmt_headline.proofs.bytes_heard.deliveries_are_heard.Goals as goal
use Rattle.mmt_headline.proofs.Delivered.{deliveries-heard as law}

pub returns : goal.returns
returns c = law
