use Rattle.std.proofs.Common.{arith}
use Rattle.mmt_fields.proofs.Codec.{is_found, is_only}
use Rattle.mmt_sig.specs.View.{view}
use Rattle.mmt_sig.proofs.PayloadLaw.{payload_format}
use Rattle.mmt_sig.proofs.reading.read_sig.Goals as goal

pub returns-clause-found : goal.returns-clause-found
returns-clause-found c = is_found payload_format view c.args.payload.now c.payload.result (λ i. omega (arith, c.type_inv.payload i)) c.payload.ensures.gives

pub returns-clause-only : goal.returns-clause-only
returns-clause-only c = is_only payload_format view c.args.payload.now c.payload.result c.payload.ensures.gives
