use Rattle.mmt_made.proofs.RightMade.{is-right}
use Rattle.mmt_made.proofs.programmes.programme.Goals as goal

pub returns-in-Ok-clause-right : goal.returns-in-Ok-clause-right
returns-in-Ok-clause-right c = is-right c.in-Ok.programme c.in-Ok.ensures
