use Rattle.std.proofs.Common.{◌≡◌, ◌+◌, ◌*◌, ◌≤◌, ◌++◌, map, drop}
use Rattle.std.specs.Prelude.{vec_len, vec_capacity}
use Rattle.std.specs.List.{flat_map}
use Rattle.mmt_cast.specs.SentTables.{pair_of}
use Rattle.mmt_signals.specs.Named.{named}
use Rattle.mmt_times.specs.Stamps.{pair_bytes}
use Rattle.mmt_signals.proofs.descriptors.put_pairs.Given as goal

abbrev pub invariant-loop-name : goal.invariant-loop-name
invariant-loop-name l = record {
  items : l.out.items ++ flat_map pair_bytes (map pair_of (named l.asset (drop l.name-index l.names))) ≡ l.fn.out.items ++ flat_map pair_bytes (map pair_of (named l.asset l.names));
  len : vec_len l.out ≡ vec_len l.fn.out + 12 * l.name-index;
  capacity : vec_capacity l.fn.out ≤ vec_capacity l.out;
}
