use Rattle.mmt_mpt.proofs.DescriptorSteps.{descriptors_first}
use Rattle.mmt_mpt.proofs.reading_descriptors.first_descriptor.Goals as goal

pub returns-in-Ok-clause-first : goal.returns-in-Ok-clause-first
returns-in-Ok-clause-first c = rw c.in-Ok.ensures.from (descriptors_first c.args.at c.args.bytes.now _ c.in-Ok.ensures.gives)
