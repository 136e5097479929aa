use Rattle.std.proofs.Common.{arith}
use Rattle.mmt_fields.proofs.Codec.{is_found, is_only}
use Rattle.mmt_times.specs.ContentView.{view_extended}
use Rattle.mmt_times.proofs.Laws.{extended_format}
use Rattle.mmt_times.proofs.reading_extended.extended_of.Goals as goal

pub returns-clause-found : goal.returns-clause-found
returns-clause-found c = is_found extended_format view_extended c.args.bytes.now c.extended_from.result (λ i. omega (arith, c.type_inv.bytes i)) c.extended_from.ensures.gives

pub returns-clause-only : goal.returns-clause-only
returns-clause-only c = is_only extended_format view_extended c.args.bytes.now c.extended_from.result c.extended_from.ensures.gives
