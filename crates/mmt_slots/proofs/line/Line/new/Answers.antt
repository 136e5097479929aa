use Rattle.std.proofs.Common.{rules}
use Rattle.std.proofs.lemmas.List.Sorted.{IsNonDecreasingBy-from_sort_by_key}
use Rattle.mmt_slots.specs.declared.line.Waiting.{Waiting}
use Rattle.mmt_slots.proofs.line.Line.new.Goals as goal

pub returns-clause-sound : goal.returns-clause-sound
returns-clause-sound c = record {
  sorted = IsNonDecreasingBy-from_sort_by_key (λ (w : Waiting). w.release) _ c.in_ok-sort_by_key.ensures.sorted (λ a r q k. search rules);
  on_top = c.new.ensures.heap_order;
}
