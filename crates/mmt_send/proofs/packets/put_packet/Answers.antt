use Rattle.std.proofs.Common.{arith}
use Rattle.mmt_sent.specs.Stream.{contents_sent}
use Rattle.mmt_send.specs.Files.{files_on}
use Rattle.mmt_send.proofs.Mmtp.{head-long, packet-made}
use Rattle.mmt_send.proofs.packets.put_packet.Goals as goal

pub returns-clause-long : goal.returns-clause-long
returns-clause-long g c =
    omega (
      arith,
      c.in_ok-put_payload.ensures.long,
      head-long c.args.sent.now.rap c.kind_of.result c.args.sent.now.packet_id c.low.result.0 c.args.sent.now.number c.write_packet.new.out.items c.args.out.now.items c.in_ok-write_packet.ensures.ok,
    )

pub returns-clause-packet : goal.returns-clause-packet
returns-clause-packet g c t =
    packet-made c.args.job.now.cast.now (contents_sent c.args.job.now.programme.now (files_on (g.H.Shelf.file c.args.shelf.now) c.args.job.now.programme.now)) c.args.sent.now c.kind_of.result c.low.result.0 _ c.write_packet.new.out.items c.args.out.now.items
    c.in_ok-write_packet.ensures.ok (c.kind_of.ensures c.args.job.now.cast.now (contents_sent c.args.job.now.programme.now (files_on (g.H.Shelf.file c.args.shelf.now) c.args.job.now.programme.now))) c.low.ensures (c.in_ok-put_payload.ensures.payload t)
