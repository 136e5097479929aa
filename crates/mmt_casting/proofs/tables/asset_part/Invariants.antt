use Rattle.std.proofs.Common.{◌≡◌, ◌≤◌, ◌+◌, ◌*◌, drop}
use Rattle.mmt_casting.specs.Ends.{own_count, own_extended}
use Rattle.mmt_casting.specs.Places.{asset_at}
use Rattle.mmt_casting.proofs.tables.asset_part.Given as goal

abbrev pub invariant-loop-i : goal.invariant-loop-i
invariant-loop-i l = record {
  from : l.first + l.named ≡ l.i;
  count : own_count l.a (drop l.first l.listed) ≡ l.named + own_count l.a (drop l.i l.listed);
  sum : own_extended (asset_at l.programme l.a) l.a (drop l.first l.listed) ≡ l.extended + own_extended (asset_at l.programme l.a) l.a (drop l.i l.listed);
  short : l.extended ≤ l.named * 256;
}
