use Rattle.std.proofs.Common.{◌≡◌, ◌+◌, ◌*◌, ◌≤◌, ◌++◌, length, vec_len, vec_capacity}
use Rattle.std.specs.List.{flat_map}
use Rattle.mmt_times.specs.EntryView.{view_entry}
use Rattle.mmt_times.specs.TimesLeft.{times_left}
use Rattle.mmt_list.specs.Names.{time_text}
use Rattle.mmt_list.proofs.names.put_times.Given as goal

abbrev pub invariant-loop-time : goal.invariant-loop-time
invariant-loop-time l = record {
  items : l.out.items ++ flat_map time_text (times_left l.time-iterator) ≡ l.initial.out.items ++ flat_map time_text (view_entry l.entry).aus;
  grows : vec_len l.initial.out ≤ vec_len l.out;
  len : vec_len l.out + 36 * length (times_left l.time-iterator) ≤ vec_len l.initial.out + 36 * length (view_entry l.entry).aus;
  capacity : vec_capacity l.initial.out ≤ vec_capacity l.out;
}
