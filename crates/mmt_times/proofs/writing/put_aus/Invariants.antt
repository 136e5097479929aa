use Rattle.std.proofs.Common.{◌≡◌, ◌+◌, ◌*◌, ◌≤◌, ◌++◌, length, map, take, vec_len, vec_capacity, true}
use Rattle.std.specs.List.{flat_map, All}
use Rattle.mmt_times.specs.Extended.{AuFits, au_bytes}
use Rattle.mmt_times.specs.Writing.{au_value}
use Rattle.mmt_times.proofs.writing.put_aus.Given as goal

abbrev pub invariant-loop-au : goal.invariant-loop-au
invariant-loop-au l = record {
  items : l.out.items ≡ l.initial.out.items ++ flat_map au_bytes (map au_value (take l.au-index l.aus));
  fits : All (AuFits true) (map au_value (take l.au-index l.aus));
  room : vec_len l.out + 4 * length l.aus ≤ vec_capacity l.out + 4 * l.au-index;
}
