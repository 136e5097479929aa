use Rattle.std.proofs.Common.{arith}
use Rattle.mmt_fields.proofs.Codec.{is_found, is_only}
use Rattle.mmt_ctx.specs.Compressed.{view}
use Rattle.mmt_ctx.proofs.Law.{packet_format}
use Rattle.mmt_ctx.proofs.reading.read_compressed.Goals as goal

pub returns-clause-found : goal.returns-clause-found
returns-clause-found c = is_found packet_format view c.args.bytes.now c.packet.result (λ i. omega (arith, c.type_inv.bytes i)) c.packet.ensures.gives

pub returns-clause-only : goal.returns-clause-only
returns-clause-only c = is_only packet_format view c.args.bytes.now c.packet.result c.packet.ensures.gives
