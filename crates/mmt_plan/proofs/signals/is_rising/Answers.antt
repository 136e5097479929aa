use Rattle.std.proofs.Common.{◌+◌, ◌&&◌, Some, drop, get_or, sym, ap, ◌∙◌}
use Rattle.std.proofs.lemmas.List.{at_drop_more, at_drop_all}
use Rattle.mmt_plan.specs.Signals.{rises_after}
use Rattle.mmt_plan.proofs.signals.is_rising.Goals as goal

pub returns-then-not-is_above : goal.returns-then-not-is_above
returns-then-not-is_above c =
    sym (c.loop-pair.invariant ∙ at_drop_more (rises_after c.loop-pair.last) c.args.pairs.now c.loop-pair.pair-index (0, 0) c.loop-pair-test.true
    ∙ ap (λ b. b && rises_after (Some (get_or c.args.pairs.now c.loop-pair.pair-index (0, 0))) (drop (c.loop-pair.pair-index + 1) c.args.pairs.now)) (sym c.is_above.ensures ∙ c.if-not-is_above.true))

pub loop-pair-preserved : goal.loop-pair-preserved
loop-pair-preserved c =
    c.loop-pair.invariant ∙ at_drop_more (rises_after c.loop-pair.last) c.args.pairs.now c.loop-pair.pair-index (0, 0) c.loop-pair-test.true
    ∙ ap (λ b. b && rises_after (Some (get_or c.args.pairs.now c.loop-pair.pair-index (0, 0))) (drop (c.loop-pair.pair-index + 1) c.args.pairs.now)) (sym c.is_above.ensures ∙ c.if-not-is_above.false)

pub returns : goal.returns
returns c = sym (c.loop-pair.invariant ∙ at_drop_all (rises_after c.loop-pair.last) c.args.pairs.now c.loop-pair.pair-index c.loop-pair-test.false)
