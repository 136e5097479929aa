use Rattle.std.proofs.Common.{arith}
use Rattle.mmt_pace.proofs.Retiming.{all-retimed, none-retimed, one-retimed}
use Rattle.mmt_pace.specs.Recast.{ticks_of}
use Rattle.mmt_pace.proofs.timing.retimed.Goals as goal

pub loop-n-init : goal.loop-n-init
loop-n-init c = none-retimed (ticks_of c.args.slots.now c.args.given.now) c.args.packets.now c.in_ok-moved.moved.items c.in_ok-moved.ensures.items

pub loop-n-preserved : goal.loop-n-preserved
loop-n-preserved c =
    one-retimed (ticks_of c.args.slots.now c.args.given.now) c.args.packets.now c.loop-n.n _ c.loop-n.moved.items c.push.new.self.items c.slot_tick.result c.loop-n-test.true c.loop-n.invariant c.in_ok-push.ensures.items c.slot_tick.ensures

pub returns : goal.returns
returns c = all-retimed (ticks_of c.args.slots.now c.args.given.now) c.args.packets.now c.loop-n.n c.loop-n.moved.items (omega arith) c.loop-n.invariant
