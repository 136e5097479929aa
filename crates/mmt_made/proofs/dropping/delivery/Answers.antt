use Rattle.std.proofs.Common.{◌≡◌, ℕ, arith, ap, sym, ◌∙◌}
use Rattle.std.specs.List.{flat_map}
use Rattle.mmt_made.proofs.Lists.{flat-next, flat-none}
use Rattle.mmt_made.specs.Generator.{copies, delivery, swapped}
use Rattle.mmt_model.specs.Carrying.{numbers}
use Rattle.mmt_made.proofs.dropping.delivery.Goals as goal

pub loop-turn-init : goal.loop-turn-init
loop-turn-init c = c.new-list.ensures ∙ sym (flat-none (λ (i : ℕ). copies c.args.seed (swapped c.args.count i)) 0)

pub loop-turn-preserved : goal.loop-turn-preserved
loop-turn-preserved c =
    flat-next (λ (i : ℕ). copies c.args.seed (swapped c.args.count i)) c.loop-turn.turn c.loop-turn.list c.deliver.new.list (copies c.args.seed c.place_at.result) c.loop-turn.invariant c.in-Ok.ensures (ap (copies c.args.seed) c.place_at.ensures)

pub returns : goal.returns
unfolding delivery
returns c =
    let all : c.loop-turn.turn ≡ c.args.count = omega arith in
    c.loop-turn.invariant ∙ ap (λ (n : ℕ). flat_map (λ (i : ℕ). copies c.args.seed (swapped c.args.count i)) (numbers 0 n)) all
