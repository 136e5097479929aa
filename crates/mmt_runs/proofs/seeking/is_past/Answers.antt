use Rattle.mmt_runs.proofs.Better.{numbers_lent}
use Rattle.mmt_runs.proofs.seeking.is_past.Goals as goal

pub returns-in-Some : goal.returns-in-Some
returns-in-Some c = λ t. rw (c.in-Some.is, numbers_lent c.in-Some.best, ← c.order.ensures, ← c.numbers.ensures, ← c.is_less.ensures) t
