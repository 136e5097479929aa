use Rattle.mmt_gate.proofs.ExpandingKeeps.{expanding_keeps}
use Rattle.mmt_gate.proofs.laws.expanding_keeps_datagrams.Goals as goal

pub returns : goal.returns
returns c = expanding_keeps
