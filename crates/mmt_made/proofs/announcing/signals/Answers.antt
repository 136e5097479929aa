use Rattle.std.proofs.Common.{ℕ, ◌*◌, List, [], ◌∷◌, ◌++◌, ap, sym, ◌∙◌, append_assoc}
use Rattle.mmt_made.proofs.Lists.{flat-next, flat-none}
use Rattle.mmt_made.specs.Generator.{block, tick_at}
use Rattle.mmt_model.specs.declared.programmes.Signal.{Signal}
use Rattle.mmt_model.specs.declared.programmes.Signal.TheVariants as signals
use Rattle.mmt_made.proofs.announcing.signals.Goals as goal

pub loop-block-init : goal.loop-block-init
loop-block-init c = c.new-list.ensures ∙ sym (flat-none block 0)

pub loop-block-preserved : goal.loop-block-preserved
loop-block-preserved c =
    let two : List Signal = signals.Parameters (tick_at (32768 * c.loop-block.block)) ∷ signals.Table (tick_at (32768 * c.loop-block.block)) c.in-Ok.names ∷ [] in
    flat-next block c.loop-block.block c.loop-block.list c.push-in-loop-block.new.self two c.loop-block.invariant
    (c.in-Ok-push-2.ensures.pushed
    ∙ (ap (λ (l : List Signal). l ++ signals.Table (tick_at (32768 * c.loop-block.block)) c.in-Ok.names ∷ []) c.in-Ok-push.ensures.pushed
    ∙ append_assoc c.loop-block.list (signals.Parameters (tick_at (32768 * c.loop-block.block)) ∷ []) (signals.Table (tick_at (32768 * c.loop-block.block)) c.in-Ok.names ∷ [])))
    (ap (λ (names : List (ℕ × ℕ)). signals.Parameters (tick_at (32768 * c.loop-block.block)) ∷ signals.Table (tick_at (32768 * c.loop-block.block)) names ∷ []) c.in-Ok.ensures)
