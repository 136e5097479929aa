use Rattle.std.proofs.Common.{ap, ◌∙◌}
use Rattle.mmt_cast.specs.Right.{unit_at}
use Rattle.mmt_casting.proofs.Adding.{added-more, added-none}
use Rattle.mmt_casting.specs.Spans.{unit_by}
use Rattle.mmt_casting.proofs.units.put_units.Goals as goal

pub loop-k-init : goal.loop-k-init
loop-k-init c = added-none (λ k. unit_by (unit_at c.args.programme.now k) c.args.run) c.args.spot.unit_place c.args.out.now.items

pub loop-k-preserved : goal.loop-k-preserved
loop-k-preserved c =
    added-more (λ k. unit_by (unit_at c.args.programme.now k) c.args.run) c.args.spot.unit_place c.loop-k.k c.args.out.now.items c.loop-k.out.items c.push.new.self.items c.sent_unit.result
    c.loop-k.invariant c.in_ok-push.ensures.items (c.sent_unit.ensures ∙ ap (λ k. unit_by (unit_at c.args.programme.now k) c.args.run) c.further.ensures.place)
