use Rattle.std.proofs.Common.{arith}
use Rattle.mmt_fields.proofs.Codec.{is_found, is_only}
use Rattle.mmt_mpu.specs.View.{view}
use Rattle.mmt_mpu.proofs.Law.{payload_format}
use Rattle.mmt_mpu.proofs.reading.read_mpu.Goals as goal

pub returns-clause-found : goal.returns-clause-found
returns-clause-found c = is_found payload_format view c.args.payload.now c.mpu_payload.result (λ i. omega (arith, c.type_inv.payload i)) c.mpu_payload.ensures.gives

pub returns-clause-only : goal.returns-clause-only
returns-clause-only c = is_only payload_format view c.args.payload.now c.mpu_payload.result c.mpu_payload.ensures.gives
