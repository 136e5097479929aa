use Rattle.mmt_headline.proofs.bytes_heard.each_is_heard.Goals as goal
use Rattle.mmt_headline.proofs.Each.{each-heard-or-refused as law}

pub returns : goal.returns
returns c = law
