use Rattle.mmt_headline.proofs.bytes_heard.payloads_spell.Goals as goal
use Rattle.mmt_headline.proofs.Payloads.{spell as law}

pub returns : goal.returns
returns c = law
