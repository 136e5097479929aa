use Rattle.std.proofs.Common.{refl}
use Rattle.mmt_sig.proofs.writing.write_sig.Goals as goal

pub returns-clause-fits : goal.returns-clause-fits
returns-clause-fits c = record {
  part = rw c.requires.alone tt;
  reserved = c.requires.reserved;
  counter = c.put_u8-2.ensures.fits;
  messages = rw c.requires.alone refl;
}
