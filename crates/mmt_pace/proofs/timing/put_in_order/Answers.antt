use Rattle.std.proofs.Common.{rules}
use Rattle.std.proofs.lemmas.List.Sorted.{IsNonDecreasingBy-from_sort_by_key}
use Rattle.mmt_model.specs.declared.casts.Sent.{Sent}
use Rattle.mmt_pace.proofs.Retiming.{sorted-by-tick}
use Rattle.mmt_pace.proofs.timing.put_in_order.Goals as goal

pub returns : goal.returns
returns c =
    sorted-by-tick c.args.packets.now.items _ c.requires c.in_ok-sort_by_key.ensures.permutation
    (IsNonDecreasingBy-from_sort_by_key (λ (p : Sent). p.at.0) _ c.in_ok-sort_by_key.ensures.sorted (λ a r q k. search rules))
