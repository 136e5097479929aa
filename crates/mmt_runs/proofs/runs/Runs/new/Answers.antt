use Rattle.std.proofs.Common.{refl}
use Rattle.mmt_runs.proofs.Spans.{none_told}
use Rattle.mmt_runs.proofs.Naming.{named_begun}
use Rattle.mmt_runs.proofs.Sought.{all_passed}
use Rattle.mmt_runs.proofs.DueOrder.{apart}
use Rattle.mmt_runs.proofs.Indexing.{times-of}
use Rattle.mmt_runs.proofs.runs.Runs.new.Goals as goal

pub returns : goal.returns
returns c = λ known none. none_told _ known none
