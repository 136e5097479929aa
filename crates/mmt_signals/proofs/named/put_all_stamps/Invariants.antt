use Rattle.std.proofs.Common.{◌≡◌, ◌+◌, ◌≤◌, ◌-◌, ◌++◌, length}
use Rattle.std.specs.Prelude.{vec_len, vec_capacity}
use Rattle.mmt_signals.proofs.Bytes.{stamps_from}
use Rattle.mmt_signals.proofs.named.put_all_stamps.Given as goal

abbrev pub invariant-loop-place : goal.invariant-loop-place
invariant-loop-place l = record {
  items : l.out.items ++ stamps_from l.asset l.names l.place (l.place-end - l.place) ≡ l.fn.out.items ++ stamps_from l.asset l.names 0 l.place-end;
  len : vec_len l.out + length (stamps_from l.asset l.names l.place (l.place-end - l.place)) ≡ vec_len l.fn.out + length (stamps_from l.asset l.names 0 l.place-end);
  capacity : vec_capacity l.fn.out ≤ vec_capacity l.out;
}
