use Rattle.std.proofs.Common.{◌≡◌, ◌+◌, ◌*◌, ◌≤◌, ◌++◌, length, map, take, vec_len, vec_capacity}
use Rattle.std.specs.List.{flat_map, All}
use Rattle.mmt_times.specs.Stamps.{PairFits, pair_bytes}
use Rattle.mmt_times.specs.Writing.{pair_value}
use Rattle.mmt_times.proofs.writing.put_pairs.Given as goal

abbrev pub invariant-loop-pair : goal.invariant-loop-pair
invariant-loop-pair l = record {
  items : l.out.items ≡ l.initial.out.items ++ flat_map pair_bytes (map pair_value (take l.pair-index l.pairs));
  fits : All PairFits (map pair_value (take l.pair-index l.pairs));
  room : vec_len l.out + 12 * length l.pairs ≤ vec_capacity l.out + 12 * l.pair-index;
}
