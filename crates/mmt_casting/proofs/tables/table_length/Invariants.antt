use Rattle.std.proofs.Common.{◌≡◌, ◌≤◌, ◌+◌, ◌*◌, ◌^◌, length}
use Rattle.std.specs.List.{sum_by}
use Rattle.mmt_cast.specs.Placing.{map_from}
use Rattle.mmt_cast.specs.Tables.{asset_length}
use Rattle.mmt_casting.proofs.Long.{lengths_from}
use Rattle.mmt_casting.proofs.OwnNames.{AreOwn}
use Rattle.mmt_casting.proofs.tables.table_length.Given as goal

abbrev pub invariant-loop-a : goal.invariant-loop-a
invariant-loop-a l = record {
  sum : sum_by (λ n. n) (map_from (asset_length l.listed) 0 l.programme.assets) ≡ l.sum + lengths_from l.listed l.a l.programme.assets;
  own : AreOwn l.a l.first l.listed;
  within : l.first ≤ length l.listed;
  short : l.sum ≤ l.a * 2 ^ 48;
}
