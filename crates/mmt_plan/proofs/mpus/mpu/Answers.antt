use Rattle.std.proofs.Common.{rules}
use Rattle.mmt_plan.specs.Mpus.{mpu_of}
use Rattle.mmt_plan.proofs.mpus.mpu.Goals as goal

pub returns-in_err-no_other-clause-value : goal.returns-in_err-no_other-clause-value
unfolding mpu_of
returns-in_err-no_other-clause-value c =
    rw (← c.in_ok-object.ensures, ← c.in_ok-number.ensures.value, ← c.in_ok-time.ensures.value, ← c.in_ok-decoding_offset.ensures.value, ← c.most_aus-most.ensures.value, c.in_ok-aus.ensures.value, c.in_ok-units.ensures.value, ← c.in_err-no_other.ensures) (search rules)

pub returns-clause-value : goal.returns-clause-value
unfolding mpu_of
returns-clause-value c =
    rw (← c.in_ok-object.ensures, ← c.in_ok-number.ensures.value, ← c.in_ok-time.ensures.value, ← c.in_ok-decoding_offset.ensures.value, ← c.most_aus-most.ensures.value, c.in_ok-aus.ensures.value, c.in_ok-units.ensures.value, ← c.in_ok-no_other.ensures)
