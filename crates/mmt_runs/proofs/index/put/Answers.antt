use Rattle.mmt_runs.proofs.DueOrder.{put-in}
use Rattle.mmt_runs.proofs.index.put.Goals as goal

pub returns-in-Ok-clause-keeps : goal.returns-in-Ok-clause-keeps
returns-in-Ok-clause-keeps c = (put-in c.args.index.now.keys c.insert-2.new.self.keys c.args.due c.in-Ok.ensures.updates.0).1
