use Rattle.mmt_plan.specs.Tops.{programme_at}
use Rattle.std.proofs.Common.{rules}
use Rattle.mmt_plan.proofs.tops.programme_at.Goals as goal

pub returns-in_err-no_other-clause-value : goal.returns-in_err-no_other-clause-value
unfolding programme_at
returns-in_err-no_other-clause-value c =
    rw (← c.in_ok-object.ensures, ← c.in_ok-sending.ensures.value, ← c.in_ok-package.ensures.value, ← c.in_ok-params.ensures.value, ← c.in_ok-start.ensures.value, c.in_ok-signals.ensures.value, c.in_ok-assets.ensures.value, ← c.in_err-no_other.ensures) (search rules)

pub returns-clause-value : goal.returns-clause-value
unfolding programme_at
returns-clause-value c =
    rw (← c.in_ok-object.ensures, ← c.in_ok-sending.ensures.value, ← c.in_ok-package.ensures.value, ← c.in_ok-params.ensures.value, ← c.in_ok-start.ensures.value, c.in_ok-signals.ensures.value, c.in_ok-assets.ensures.value, ← c.in_ok-no_other.ensures, c.in_ok-package-2.ensures, c.in_ok-files.ensures)
