use Rattle.std.proofs.Common.{◌≡◌, ◌++◌, take, vec_len}
use Rattle.std.specs.List.{flat_map}
use Rattle.mmt_mpt.specs.TableView.{view}
use Rattle.mmt_times.specs.NamesOf.{names_of}
use Rattle.mmt_times.specs.NamedLeft.{named_left}
use Rattle.mmt_list.specs.Names.{configured, named_text}
use Rattle.mmt_list.proofs.names.put_names.Given as goal

abbrev pub invariant-loop-named : goal.invariant-loop-named
invariant-loop-named l = record {
  items : l.out.items ++ flat_map named_text (named_left l.named-iterator) ≡ l.initial.out.items ++ flat_map named_text (names_of configured (view l.mpt));
  front : take (vec_len l.initial.out) l.out.items ≡ l.initial.out.items;
}
