use Rattle.std.proofs.Common.{◌+◌, length, arith}
use Rattle.mmt_mpt.specs.HeadView.{view_head}
use Rattle.mmt_mpt.proofs.AssetLaw.{descriptors_begin}
use Rattle.mmt_mpt.proofs.reading_assets.asset_at.Goals as goal

pub invariant_of-result-clause-placed : goal.invariant_of-result-clause-placed
invariant_of-result-clause-placed c = rw c.in_ok-rest.ensures.walk.1 (descriptors_begin c.args.at c.in_ok-head.head.count c.args.bytes.now (view_head c.in_ok-head.head) c.in_ok-head.locations.now (c.args.at + 12 + length c.in_ok-head.head.id.now) (λ i. omega (arith, c.type_inv.bytes i)) c.in_ok-head.ensures.gives c.in_ok-rest.ensures.walk.0)
