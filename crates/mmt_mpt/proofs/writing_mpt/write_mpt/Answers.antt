use Rattle.std.proofs.Common.{arith}
use Rattle.mmt_mpt.specs.Owned.{owned_mpt}
use Rattle.mmt_mpt.proofs.TableLaw.{read_back}
use Rattle.mmt_mpt.proofs.writing_mpt.write_mpt.Goals as goal

pub returns-clause-read : goal.returns-clause-read
returns-clause-read c = read_back (owned_mpt c.args.mpt.now) (record { parts = c.requires; len = omega (arith, c.inner_size-size.ensures) })
