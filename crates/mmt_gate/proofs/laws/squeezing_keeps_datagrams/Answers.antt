use Rattle.mmt_gate.proofs.SqueezingKeeps.{squeezing_keeps}
use Rattle.mmt_gate.proofs.laws.squeezing_keeps_datagrams.Goals as goal

pub returns : goal.returns
returns c = squeezing_keeps
