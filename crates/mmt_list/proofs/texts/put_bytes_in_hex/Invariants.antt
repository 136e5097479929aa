use Rattle.std.proofs.Common.{◌≡◌, ◌+◌, ◌*◌, ◌≤◌, ◌++◌, take, vec_len, vec_capacity}
use Rattle.std.specs.List.{flat_map}
use Rattle.mmt_list.specs.Text.{hex_byte}
use Rattle.mmt_list.proofs.texts.put_bytes_in_hex.Given as goal

abbrev pub invariant-loop-byte : goal.invariant-loop-byte
invariant-loop-byte l = record {
  items : l.out.items ≡ l.initial.out.items ++ flat_map hex_byte (take l.byte-index l.bytes);
  len : vec_len l.out ≡ vec_len l.initial.out + 2 * l.byte-index;
  capacity : vec_capacity l.initial.out ≤ vec_capacity l.out;
}
