use Rattle.mmt_times.proofs.Readers.{mpus_first, mpus_none}
use Rattle.mmt_times.proofs.reading_extended.first_mpu.Goals as goal

pub returns-in-Ok : goal.returns-in-Ok
returns-in-Ok c = mpus_first c.args.each c.args.bytes.now _ c.in-Ok.ensures.gives

pub returns-in-Err : goal.returns-in-Err
returns-in-Err c = mpus_none c.args.each c.args.bytes.now _ c.in-Err.ensures.gives
