use Rattle.std.proofs.Common.{arith}
use Rattle.mmt_ctx.specs.Spelling.{spelling as compressed_spelling}
use Rattle.mmt_ctx.specs.Squeezing.{packet_at}
use Rattle.mmt_gate.proofs.Lengths.{length_compressed}
use Rattle.mmt_gate.proofs.Spelled.{squeezed_begun}
use Rattle.mmt_gate.proofs.writing.put_squeezed.Goals as goal

pub put_length-requires : goal.put_length-requires
put_length-requires c =
    let call = c.requires.at_call.0 in
    let body = compressed_spelling (packet_at call c.args.squeezer.now c.args.payload.now) in
    squeezed_begun c.args.out.now.items c.put_header.new.out.items c.next.new.out.items c.len-place.result body (omega (arith, c.len-place.ensures)) c.in_ok-put_header.ensures.ok
    (c.in-Ok.ensures.body call c.requires.at_call.1) (omega (arith, length_compressed (packet_at call c.args.squeezer.now c.args.payload.now), c.requires.len))
