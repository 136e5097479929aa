use Rattle.std.proofs.Common.{◌≡◌, length}
use Rattle.std.specs.List.{All}
use Rattle.mmt_plan.proofs.Lists.{HasRead}
use Rattle.mmt_plan.proofs.parts.read_each.Given as goal

abbrev pub invariant-loop-value : goal.invariant-loop-value
invariant-loop-value g l = record {
  read : HasRead (g.P.Part.item_at l.spot) l.values.items l.items l.value-index;
  counted : l.number ≡ l.value-index;
  right : All (g.P.Part.is_right l.spot) l.items;
  count : length l.items ≡ l.value-index;
}
