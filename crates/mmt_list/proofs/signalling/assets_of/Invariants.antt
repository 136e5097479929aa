use Rattle.std.proofs.Common.{◌≡◌, ◌+◌, length}
use Rattle.mmt_mpt.specs.AssetsLeft.{assets_left}
use Rattle.mmt_mpt.specs.TableView.{view}
use Rattle.mmt_list.proofs.signalling.assets_of.Given as goal

abbrev pub invariant-loop-asset : goal.invariant-loop-asset
invariant-loop-asset l = l.count + length (assets_left l._asset-iterator) ≡ length (view l.mpt).assets
