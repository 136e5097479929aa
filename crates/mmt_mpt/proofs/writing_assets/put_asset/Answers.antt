use Rattle.std.proofs.Common.{arith}
use Rattle.mmt_mpt.specs.Owned.{owned_asset}
use Rattle.mmt_mpt.proofs.Sizes.{asset_long}
use Rattle.mmt_mpt.proofs.writing_assets.put_asset.Goals as goal

pub put_head-requires-clause-room : goal.put_head-requires-clause-room
put_head-requires-clause-room c = omega (arith, asset_long (owned_asset c.args.asset.now), c.requires.room)

pub put_descriptors-requires-clause-room : goal.put_descriptors-requires-clause-room
put_descriptors-requires-clause-room c = rw c.as_slice-2.ensures (omega (arith, asset_long (owned_asset c.args.asset.now), c.requires.room, rw c.as_slice.ensures at c.put_locations.ensures.len))
