use Rattle.std.proofs.Common.{arith}
use Rattle.mmt_fields.proofs.Codec.{is_found, is_only}
use Rattle.mmt_times.specs.Stamps.{pairs_from}
use Rattle.mmt_times.proofs.Laws.{stamps_format}
use Rattle.mmt_times.proofs.reading_stamps.stamps_of.Goals as goal

pub returns-clause-found : goal.returns-clause-found
returns-clause-found c = is_found stamps_format (λ pairs. pairs_from pairs.now) c.args.bytes.now c.stamps_from.result (λ i. omega (arith, c.type_inv.bytes i)) c.stamps_from.ensures

pub returns-clause-only : goal.returns-clause-only
returns-clause-only c = is_only stamps_format (λ pairs. pairs_from pairs.now) c.args.bytes.now c.stamps_from.result c.stamps_from.ensures
