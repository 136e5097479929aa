use Rattle.mmt_mpt.specs.Descriptor.{DescriptorFits}
use Rattle.mmt_mpt.specs.Owned.{owned_descriptor}
use Rattle.mmt_mpt.proofs.Sizes.{one_fits}
use Rattle.mmt_mpt.proofs.writing_descriptors.put_each.Goals as goal

pub put_descriptor-requires-clause-fits : goal.put_descriptor-requires-clause-fits
put_descriptor-requires-clause-fits c = one_fits DescriptorFits owned_descriptor c.args.descriptors.now c.loop-descriptor.descriptor-index c.descriptor-item.result c.loop-descriptor-test.true c.descriptor-item.is c.requires.fit
