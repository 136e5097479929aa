use Rattle.std.proofs.Common.{ap}
use Rattle.mmt_expect.proofs.Finds.{both-found, not-found}
use Rattle.mmt_model.specs.declared.casts.SentUnit.{SentUnit}
use Rattle.mmt_expect.proofs.counting.is_expected.Goals as goal

pub returns-then-as_slice-unit-lt-NEVER : goal.returns-then-as_slice-unit-lt-NEVER
returns-then-as_slice-unit-lt-NEVER c =
    both-found c.args.cast.now c.args.found.now c.args.unit c.place_of_mpu-mpu.result c.unit_at-due.result.due.0 c.as_slice-2.result.now c.as_slice-then-as_slice-unit-lt-NEVER.result.now
    c.as_slice-2.ensures.value c.as_slice-then-as_slice-unit-lt-NEVER.ensures.value c.place_of_mpu-mpu.ensures.place (ap (λ (s : SentUnit). s.due.0) c.unit_at-due.ensures) c.if-as_slice-unit-lt-NEVER.true

pub returns-else-as_slice-unit-lt-NEVER : goal.returns-else-as_slice-unit-lt-NEVER
returns-else-as_slice-unit-lt-NEVER c = not-found c.args.cast.now c.args.found.now c.args.unit c.as_slice-2.result.now c.as_slice-2.ensures.value c.if-as_slice-unit-lt-NEVER.false
