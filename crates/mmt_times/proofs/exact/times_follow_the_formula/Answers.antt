use Rattle.mmt_times.proofs.Formula.{follow}
use Rattle.mmt_times.proofs.exact.times_follow_the_formula.Goals as goal

pub returns : goal.returns
returns c = follow
