use Rattle.mmt_slots.proofs.Pigeonhole as lemmas
use Rattle.mmt_slots.proofs.laws.overfull_forbids.Goals as goal

pub returns : goal.returns
returns c = lemmas.overfull_forbids
