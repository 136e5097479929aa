use Rattle.std.proofs.Common.{get_or, arith}
use Rattle.mmt_model.specs.Carrying.{no_sent_unit}
use Rattle.mmt_pace.proofs.Between.{all-there, none-yet, one-more, unit-made}
use Rattle.mmt_pace.specs.Recast.{unit_in_packets}
use Rattle.mmt_pace.proofs.recasting.units_between.Goals as goal

pub loop-n-init : goal.loop-n-init
loop-n-init c = λ packets are. none-yet (λ i. unit_in_packets packets i (get_or c.args.units.now i no_sent_unit)) c.in_ok-between.between.items c.in_ok-between.ensures.items

pub loop-n-preserved : goal.loop-n-preserved
loop-n-preserved c = λ packets are.
    one-more (λ i. unit_in_packets packets i (get_or c.args.units.now i no_sent_unit)) c.loop-n.n c.loop-n.between.items c.push.new.self.items _ (c.loop-n.invariant packets are) c.in_ok-push.ensures.items
    (unit-made packets c.args.units.now c.loop-n.n _ c.args.spans.now _ c.first_of.result c.last_of.result c.loop-n-test.true c.requires are c.first_of.ensures c.last_of.ensures)

pub returns : goal.returns
returns c = λ packets are. all-there (λ i x. unit_in_packets packets i x) no_sent_unit c.args.units.now c.loop-n.n c.loop-n.between.items (omega arith) (c.loop-n.invariant packets are)
