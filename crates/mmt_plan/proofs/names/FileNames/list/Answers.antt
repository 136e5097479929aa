use Rattle.std.proofs.Common.{◌∷◌, [], ◌++◌, ◌∙◌, ap, take_all}
use Rattle.mmt_plan.proofs.FileNumbers.{texts, one_more}
use Rattle.mmt_plan.proofs.names.FileNames.list.Goals as goal

pub loop-name-preserved : goal.loop-name-preserved
loop-name-preserved c =
    c.in_ok-push.ensures.pushed ∙ ap (λ xs. xs ++ c.in_ok-from_str.field-0 ∷ []) c.loop-name.invariant
    ∙ one_more c.as_slice-name-items.result.now c.loop-name.name-index c.name-item.result c.in_ok-from_str.field-0 c.loop-name-test.true c.name-item.is (c.in_ok-from_str.ensures ∙ c.as_str.ensures.value)

pub returns : goal.returns
returns c =
    c.loop-name.invariant ∙ ap texts (take_all c.loop-name.name-index c.as_slice-name-items.result.now c.loop-name-test.false) ∙ ap texts c.as_slice-name-items.ensures.keys ∙ c.self.view_is
