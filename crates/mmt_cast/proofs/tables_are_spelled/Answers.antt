use Rattle.mmt_cast.proofs.tables_are_spelled.Goals as goal
use Rattle.mmt_cast.proofs.Spelled.{tables-spelled as law}

pub returns : goal.returns
returns c = law
