use Rattle.std.proofs.Common.{[]}
use Rattle.mmt_ctx.specs.Spelling.{spelling as compressed_spelling}
use Rattle.mmt_ctx.specs.Squeezing.{packet_at}
use Rattle.mmt_send.proofs.Addressed.{head-first, squeezed-begun, squeezed-few}
use Rattle.mmt_send.proofs.addressing.begin_squeezed.Goals as goal

pub returns-clause-few : goal.returns-clause-few
returns-clause-few c =
    let has = c.requires in
    squeezed-few has.1 c.args.squeezer.now c.next.new.out.items (head-first 3 c.clear.new.self.items c.write_tlv.new.out.items c.next.new.out.items (compressed_spelling (packet_at has.1 c.args.squeezer.now [])) c.clear.ensures.items c.in_ok-write_tlv.ensures.ok (c.in_ok-next.ensures.body has.1 has.2.4))

pub returns-clause-head : goal.returns-clause-head
returns-clause-head c a call is payload =
    squeezed-begun a call c.args.squeezer.now c.next.new.out.items payload is
    (head-first 3 c.clear.new.self.items c.write_tlv.new.out.items c.next.new.out.items (compressed_spelling (packet_at call c.args.squeezer.now [])) c.clear.ensures.items c.in_ok-write_tlv.ensures.ok (c.in_ok-next.ensures.body call is.4))
