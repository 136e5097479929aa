use Rattle.std.proofs.Common.{arith}
use Rattle.mmt_sig.proofs.Written.{sent_fits}
use Rattle.mmt_sig.proofs.writing.write_pa.Goals as goal

pub returns-clause-fits : goal.returns-clause-fits
returns-clause-fits c = sent_fits c.args.version c.args.table.now c.put_u8.ensures.fits c.requires.least c.requires.most (λ i. omega (arith, c.type_inv.table i)) c.requires.own_length
