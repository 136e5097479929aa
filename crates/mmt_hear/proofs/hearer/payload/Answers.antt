use Rattle.std.proofs.Common.{length, ap, arith}
use Rattle.mmt_packet.specs.Spelling.{view}
use Rattle.mmt_packet.proofs.Lengths.{length_spelling}
use Rattle.mmt_hear.proofs.hearer.payload.Goals as goal

pub returns-in-Ok-clause-lies : goal.returns-in-Ok-clause-lies
returns-in-Ok-clause-lies c = (c.in-Ok.ensures.found.0, omega (arith, ap length c.in-Ok.ensures.found.1, length_spelling (view c.in-Ok.packet)))
