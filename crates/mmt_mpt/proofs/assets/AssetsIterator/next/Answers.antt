use Rattle.std.proofs.Common.{ap}
use Rattle.mmt_mpt.specs.Asset.{placed_assets}
use Rattle.mmt_mpt.proofs.TableSteps.{assets_none}
use Rattle.mmt_mpt.proofs.assets.AssetsIterator.next.Goals as goal

pub returns-then-self-eq0-clause-steps : goal.returns-then-self-eq0-clause-steps
returns-then-self-eq0-clause-steps c =
    let none = ap (placed_assets c.args.self.now.at) (assets_none c.args.self.now.left c.args.self.now.at c.args.self.now.rest.now c.if-self-eq0.true) in
    (none, none)
