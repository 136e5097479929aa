use Rattle.mmt_pace.proofs.Stepping.{all-latest, none-latest, one-later}
use Rattle.mmt_pace.proofs.steps.latest_deadline.Goals as goal

pub loop-i-init : goal.loop-i-init
loop-i-init c = none-latest c.args.jobs.now

pub loop-i-preserved : goal.loop-i-preserved
loop-i-preserved c = one-later c.args.jobs.now c.loop-i.i _ c.loop-i.latest c.max-latest.result c.loop-i-test.true c.loop-i.invariant c.max-latest.ensures

pub returns : goal.returns
returns c = all-latest c.args.jobs.now c.loop-i.i c.loop-i.latest c.loop-i-test.false c.loop-i.invariant
