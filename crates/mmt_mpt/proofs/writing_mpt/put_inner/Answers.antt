use Rattle.std.proofs.Common.{arith}
use Rattle.mmt_mpt.specs.Owned.{owned_mpt}
use Rattle.mmt_mpt.proofs.Sizes.{inner_long}
use Rattle.mmt_mpt.proofs.writing_mpt.put_inner.Goals as goal

pub put_u8-requires : goal.put_u8-requires
put_u8-requires c = omega (arith, inner_long (owned_mpt c.args.mpt.now), c.requires.room)

pub put_u8-requires-2 : goal.put_u8-requires-2
put_u8-requires-2 c = omega (arith, inner_long (owned_mpt c.args.mpt.now), c.requires.room)

pub put_descriptors-requires-clause-room : goal.put_descriptors-requires-clause-room
put_descriptors-requires-clause-room c = rw c.as_slice-2.ensures (omega (arith, inner_long (owned_mpt c.args.mpt.now), c.requires.room, rw c.as_slice.ensures at c.put_bytes.ensures.len))

pub put_u8-requires-3 : goal.put_u8-requires-3
put_u8-requires-3 c = omega (arith, inner_long (owned_mpt c.args.mpt.now), c.requires.room, rw c.as_slice.ensures at c.put_bytes.ensures.len, rw c.as_slice-2.ensures at c.put_descriptors.ensures.len)
