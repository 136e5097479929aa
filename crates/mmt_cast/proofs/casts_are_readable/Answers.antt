use Rattle.mmt_cast.proofs.casts_are_readable.Goals as goal
use Rattle.mmt_cast.proofs.Readable.{readable}

pub returns : goal.returns
returns c = readable
