use Rattle.std.proofs.Common.{rules, arith}
use Rattle.mmt_runs.proofs.DueTimes.{each_some}
use Rattle.mmt_runs.proofs.Sought.{lies_in}
use Rattle.mmt_runs.specs.Seeking.{LieIn}
use Rattle.mmt_runs.proofs.seeking.stretch_in.Goals as goal

pub returns : goal.returns
returns c = each_some _ (LieIn c.args.index.now.keys c.args.from.0 c.args.to.0) c.stretch_of.result c.stretch_of.ensures
    (λ s h. lies_in c.args.index.now.keys c.in_ok-least.least.now c.in_ok-greatest.greatest.now c.args.from.0 c.args.to.0 s (omega arith) c.in_ok-least.ensures.least c.in_ok-greatest.ensures.greatest h)
