use Rattle.std.proofs.Common.{rules}
use Rattle.std.proofs.lemmas.List.Sorted.{answers_always}
use Rattle.mmt_cast.specs.Casting.{is_sent_before}
use Rattle.mmt_casting.proofs.InOrder.{sent-weak, sorted-is-cast}
use Rattle.mmt_casting.proofs.sorting.sort.Goals as goal

pub returns : goal.returns
returns c = λ programme same.
    sorted-is-cast programme _ _ same c.sort_by.ensures.permutation
    (c.in_ok-sort_by.ensures.sorted is_sent_before sent-weak (answers_always _ _ _ (λ f a r g h. search rules)))
