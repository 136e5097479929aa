use Rattle.std.proofs.Common.{◌≡◌, ◌+◌, ◌≤◌, length}
use Rattle.std.specs.List.{All}
use Rattle.mmt_model.specs.Right.{IsFileName}
use Rattle.mmt_plan.specs.Alone.{IsAssetAlone}
use Rattle.mmt_plan.specs.Assets.{asset_at}
use Rattle.mmt_plan.proofs.States.{HasReadTo}
use Rattle.mmt_plan.proofs.assets.assets.Given as goal

abbrev pub invariant-loop-value : goal.invariant-loop-value
invariant-loop-value l = record {
  read : HasReadTo (asset_at l.spot) l.initial.files l.values.items l.list l.files l.value-index;
  counted : l.number ≡ l.value-index;
  right : All (IsAssetAlone l.spot.start (length l.files)) l.list;
  count : length l.list ≡ l.value-index;
  named : All IsFileName l.initial.files → All IsFileName l.files;
  room : length l.files ≤ length l.initial.files + l.value-index;
}
