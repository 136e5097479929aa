use Rattle.mmt_cast.proofs.examples_compute.Goals as goal
use Rattle.mmt_cast.proofs.Examples.{examples}

pub returns : goal.returns
returns c = examples
