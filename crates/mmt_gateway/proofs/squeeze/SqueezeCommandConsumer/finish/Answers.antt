use Rattle.mmt_gate.specs.Shrinking.{squeezed}
use Rattle.mmt_gateway.specs.Gathering.{of_gathered}
use Rattle.mmt_gateway.specs.Noting.{squeeze_note}
use Rattle.mmt_gateway.specs.Passing.{passed}
use Rattle.mmt_gateway.proofs.Sending.{emits_part}
use Rattle.mmt_gateway.proofs.squeeze.SqueezeCommandConsumer.finish.Goals as goal

pub returns-clause-finished : goal.returns-clause-finished
returns-clause-finished g c = λ told packets stood.
    emits_part _ _ (of_gathered c.args.self.gathered) (passed (squeezed c.args.self.shrinker.options) squeeze_note packets) (c.in-Err.ensures.put told)
