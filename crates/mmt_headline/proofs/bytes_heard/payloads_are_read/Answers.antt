use Rattle.mmt_headline.proofs.bytes_heard.payloads_are_read.Goals as goal
use Rattle.mmt_headline.proofs.Payloads.{payloads as law}

pub returns : goal.returns
returns c = law
