use Rattle.mmt_mpu.proofs.Calls.{calls_write}
use Rattle.mmt_mpu.proofs.Written.{written_is_read}
use Rattle.mmt_mpu.proofs.writing.three_calls_write_the_payload.Goals as goal

pub returns-clause-spelled : goal.returns-clause-spelled
returns-clause-spelled c = calls_write

pub returns-clause-read : goal.returns-clause-read
returns-clause-read c = written_is_read
