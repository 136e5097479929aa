use Rattle.std.proofs.Common.{subst, sym}
use Rattle.mmt_gate.specs.Tables.{AllFit}
use Rattle.mmt_gate.proofs.Tables.{none_fit}
use Rattle.mmt_gate.proofs.expander.Expander.new.Goals as goal

pub invariant_of-result : goal.invariant_of-result
invariant_of-result c = subst AllFit (sym c.in_ok-contexts.ensures.empty) (none_fit 4096)
