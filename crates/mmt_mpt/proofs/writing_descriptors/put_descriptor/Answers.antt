use Rattle.std.proofs.Common.{arith}
use Rattle.mmt_mpt.specs.Owned.{owned_descriptor}
use Rattle.mmt_mpt.proofs.Sizes.{descriptor_long}
use Rattle.mmt_mpt.proofs.writing_descriptors.put_descriptor.Goals as goal

pub put_u16-requires : goal.put_u16-requires
put_u16-requires c = omega (arith, descriptor_long (owned_descriptor c.args.descriptor.now), c.requires.room)

pub put_length-requires-clause-room : goal.put_length-requires-clause-room
put_length-requires-clause-room c = omega (arith, descriptor_long (owned_descriptor c.args.descriptor.now), c.requires.room)
