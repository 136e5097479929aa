use Rattle.mmt_cast.proofs.tables_are_read.Goals as goal
use Rattle.mmt_cast.proofs.Tables.{tables-read as law}

pub returns : goal.returns
returns c = law
