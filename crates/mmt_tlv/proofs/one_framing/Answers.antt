use Rattle.mmt_tlv.proofs.Unique as unique
use Rattle.mmt_tlv.proofs.one_framing.Goals as goal

pub returns : goal.returns
returns c = unique.one_framing
