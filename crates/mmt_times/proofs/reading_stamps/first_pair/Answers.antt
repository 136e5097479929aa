use Rattle.mmt_times.proofs.Readers.{pairs_first, pairs_none}
use Rattle.mmt_times.proofs.reading_stamps.first_pair.Goals as goal

pub returns-in-Ok : goal.returns-in-Ok
returns-in-Ok c = pairs_first c.args.bytes.now _ c.in-Ok.ensures

pub returns-in-Err : goal.returns-in-Err
returns-in-Err c = pairs_none c.args.bytes.now _ c.in-Err.ensures
