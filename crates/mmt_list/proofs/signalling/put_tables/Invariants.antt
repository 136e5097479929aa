use Rattle.std.proofs.Common.{◌≡◌, ◌^◌, ◌<◌, ◌++◌, length, take, get_or, vec_len}
use Rattle.std.specs.List.{flat_map, All}
use Rattle.mmt_sig.specs.MessageView.{view_pa, tables_left}
use Rattle.mmt_list.specs.Signalling.{table_text}
use Rattle.mmt_list.proofs.signalling.put_tables.Given as goal

abbrev pub invariant-loop-table : goal.invariant-loop-table
invariant-loop-table l = record {
  items : l.out.items ++ flat_map table_text (tables_left l.table-iterator) ≡ l.initial.out.items ++ flat_map table_text (view_pa l.pa).tables;
  front : take (vec_len l.initial.out) l.out.items ≡ l.initial.out.items;
  within : All (λ t. length t.bytes < 2 ^ 17) (tables_left l.table-iterator);
  begin : All (λ t. get_or t.bytes 0 0 ≡ t.id) (tables_left l.table-iterator);
}
