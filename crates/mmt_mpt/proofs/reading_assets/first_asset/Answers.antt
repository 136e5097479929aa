use Rattle.std.proofs.Common.{arith}
use Rattle.mmt_mpt.proofs.AssetLaw.{assets_first, no_asset}
use Rattle.mmt_mpt.proofs.reading_assets.first_asset.Goals as goal

pub returns-in-Ok-clause-first : goal.returns-in-Ok-clause-first
returns-in-Ok-clause-first c = rw c.in-Ok.ensures.own_place (assets_first c.args.left c.args.at c.args.bytes.now _ c.requires.some (λ i. omega (arith, c.type_inv.bytes i)) c.in-Ok.ensures.gives)

pub returns-in-Err-clause-first : goal.returns-in-Err-clause-first
returns-in-Err-clause-first c = no_asset c.args.left c.args.at c.args.bytes.now _ c.in-Err.ensures.gives
