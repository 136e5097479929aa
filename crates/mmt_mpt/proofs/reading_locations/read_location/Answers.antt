use Rattle.std.proofs.Common.{arith}
use Rattle.mmt_mpt.specs.LocationView.{view_location}
use Rattle.mmt_mpt.proofs.LocationLaw.{first_found, first_only}
use Rattle.mmt_mpt.proofs.reading_locations.read_location.Goals as goal

pub returns-clause-found : goal.returns-clause-found
returns-clause-found c = first_found (λ x. (view_location x.0, x.1)) c.args.bytes.now c.first_location.result (λ i. omega (arith, c.type_inv.bytes i)) c.first_location.ensures.gives

pub returns-clause-only : goal.returns-clause-only
returns-clause-only c = first_only (λ x. (view_location x.0, x.1)) c.args.bytes.now c.first_location.result c.first_location.ensures.gives
