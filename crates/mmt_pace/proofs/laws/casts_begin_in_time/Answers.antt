use Rattle.mmt_pace.proofs.Beginning.{casts-begin}
use Rattle.mmt_pace.proofs.laws.casts_begin_in_time.Goals as goal

pub returns : goal.returns
returns c = casts-begin
