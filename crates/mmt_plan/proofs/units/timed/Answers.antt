use Rattle.mmt_plan.specs.Units.{timed_at}
use Rattle.mmt_plan.proofs.units.timed.Goals as goal

pub returns-clause-value : goal.returns-clause-value
unfolding timed_at
returns-clause-value c = rw (← c.in_ok-movie_fragment.ensures.value, ← c.in_ok-sample.ensures.value, ← c.in_ok-offset.ensures.value, ← c.in_ok-priority.ensures.value, ← c.in_ok-dependency.ensures.value, ← c.in_ok-no_other.ensures)
