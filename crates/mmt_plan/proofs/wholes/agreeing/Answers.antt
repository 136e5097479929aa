use Rattle.mmt_plan.proofs.Agreeing.{right}
use Rattle.mmt_plan.proofs.RightFiles.{all_few}
use Rattle.mmt_plan.proofs.wholes.agreeing.Goals as goal

pub check_each-requires-clause-each : goal.check_each-requires-clause-each
check_each-requires-clause-each c = rw c.as_slice-2.ensures (all_few c.args.programme c.requires.alone c.requires.few)

pub returns-clause-right : goal.returns-clause-right
returns-clause-right c =
    right c.args.programme c.requires.alone c.requires.few (rw c.as_slice.ensures at c.in_ok-ids.ensures) (rw c.as_slice-2.ensures at c.in_ok-check_each.ensures) (rw (c.as_slice-4.ensures, c.as_slice-5.ensures) at c.in_ok-check_each-2.ensures)
