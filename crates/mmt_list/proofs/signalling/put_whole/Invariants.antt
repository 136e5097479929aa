use Rattle.std.proofs.Common.{◌≡◌, ◌^◌, ◌<◌, ◌++◌, length, take, vec_len}
use Rattle.std.specs.List.{flat_map, All}
use Rattle.mmt_sig.specs.View.{view, messages_left}
use Rattle.mmt_list.specs.Signalling.{read_text}
use Rattle.mmt_list.proofs.signalling.put_whole.Given as goal

abbrev pub invariant-loop-message : goal.invariant-loop-message
invariant-loop-message l = record {
  items : l.out.items ++ flat_map read_text (messages_left l.message-iterator) ≡ l.initial.out.items ++ flat_map read_text (view l.payload).messages;
  front : take (vec_len l.initial.out) l.out.items ≡ l.initial.out.items;
  within : All (λ m. length m < 2 ^ 31) (messages_left l.message-iterator);
}
