use Rattle.mmt_times.proofs.TryingSteps.{no_times_left}
use Rattle.std.proofs.Common.{false}
use Rattle.mmt_times.proofs.trying.no_times.Goals as goal

pub returns-clause-none : goal.returns-clause-none
returns-clause-none c = no_times_left c.args.time.0 0 1 0 0 false
