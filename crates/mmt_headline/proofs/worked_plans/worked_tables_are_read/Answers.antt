use Rattle.mmt_headline.proofs.worked_plans.worked_tables_are_read.Goals as goal
use Rattle.mmt_headline.proofs.WorkedTables.{read}

pub returns : goal.returns
returns c = read
