use Rattle.mmt_mpu.proofs.Walk.{units_step}
use Rattle.mmt_mpu.proofs.head.first_unit.Goals as goal

pub returns-in-Ok-unit_at-clause-first : goal.returns-in-Ok-unit_at-clause-first
returns-in-Ok-unit_at-clause-first c = rw c.if-lone.false (units_step c.args.timed c.args.at c.args.bytes.now _ c.in-Ok-unit_at.ensures.gives)
