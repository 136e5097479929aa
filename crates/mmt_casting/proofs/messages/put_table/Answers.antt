use Rattle.std.proofs.Common.{arith}
use Rattle.mmt_cast.specs.Sending.{Sending}
use Rattle.mmt_casting.proofs.Putting.{put-more, put-none, table-ends}
use Rattle.mmt_casting.specs.Numbered.{numbered_packet}
use Rattle.mmt_casting.proofs.messages.put_table.Goals as goal

pub loop-k-init : goal.loop-k-init
loop-k-init c = put-none (numbered_packet c.args.programme.now (Sending.Table c.args.message.signal c.args.message.at c.args.message.bytes) c.args.message.number) c.args.out.now.items

pub loop-k-preserved : goal.loop-k-preserved
loop-k-preserved c =
    put-more (numbered_packet c.args.programme.now (Sending.Table c.args.message.signal c.args.message.at c.args.message.bytes) c.args.message.number) c.args.out.now.items c.loop-k.out.items c.push.new.self.items c.loop-k.k c.table_packet.result
    c.loop-k.invariant c.in_ok-push.ensures.items c.table_packet.ensures

pub returns : goal.returns
returns c =
    table-ends c.args.programme.now c.args.message.signal c.args.message.at c.args.message.bytes c.args.message.number c.loop-k.k c.args.out.now.items c.loop-k.out.items
    (omega (arith, c.loop-k-test.false, c.loop-k.auto.k-end, c.parts-k-end.ensures)) c.loop-k.invariant
