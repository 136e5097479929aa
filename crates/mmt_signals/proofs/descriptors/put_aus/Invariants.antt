use Rattle.std.proofs.Common.{◌≡◌, ◌+◌, ◌*◌, ◌≤◌, ◌++◌, map, drop}
use Rattle.std.specs.Prelude.{vec_len, vec_capacity}
use Rattle.std.specs.List.{flat_map}
use Rattle.mmt_times.specs.Extended.{au_bytes}
use Rattle.mmt_times.specs.Writing.{au_value}
use Rattle.mmt_signals.proofs.descriptors.put_aus.Given as goal

abbrev pub invariant-loop-au : goal.invariant-loop-au
invariant-loop-au l = record {
  items : l.out.items ++ flat_map au_bytes (map au_value (drop l.au-index l.aus)) ≡ l.fn.out.items ++ flat_map au_bytes (map au_value l.aus);
  len : vec_len l.out ≡ vec_len l.fn.out + 4 * l.au-index;
  capacity : vec_capacity l.fn.out ≤ vec_capacity l.out;
}
