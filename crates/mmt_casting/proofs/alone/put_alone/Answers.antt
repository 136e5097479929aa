use Rattle.mmt_casting.proofs.Putting.{put-more, put-none}
use Rattle.mmt_casting.specs.Alone.{alone_packet}
use Rattle.mmt_casting.proofs.alone.put_alone.Goals as goal

pub loop-k-init : goal.loop-k-init
loop-k-init c = put-none (alone_packet c.args.programme.now c.args.asset.now c.args.unit.now c.args.place) c.args.out.now.items

pub loop-k-preserved : goal.loop-k-preserved
loop-k-preserved c =
    put-more (alone_packet c.args.programme.now c.args.asset.now c.args.unit.now c.args.place) c.args.out.now.items c.loop-k.out.items c.push.new.self.items c.loop-k.k c.alone_packet.result
    c.loop-k.invariant c.in_ok-push.ensures.items c.alone_packet.ensures
