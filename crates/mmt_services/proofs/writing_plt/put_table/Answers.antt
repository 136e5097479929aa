use Rattle.std.proofs.Common.{arith}
use Rattle.mmt_services.proofs.TableLaw.{appended, read_fits}
use Rattle.mmt_services.proofs.writing_plt.put_table.Goals as goal

pub returns-clause-items : goal.returns-clause-items
returns-clause-items c = appended c.args.version c.args.count c.args.packages.now c.args.out.now.items c.put_u8.new.out.items c.put_u8-2.new.out.items c.put_u16.new.out.items c.put_u8-3.new.out.items c.put_bytes.new.out.items (λ i. omega (arith, c.type_inv.packages i)) c.requires.whole c.put_u8.ensures.items c.put_u8-2.ensures.items c.put_u16.ensures.items c.put_u8-3.ensures.items c.put_bytes.ensures.items

pub returns-clause-right : goal.returns-clause-right
returns-clause-right c = read_fits c.args.version c.args.count c.args.packages.now c.put_u8-2.ensures.fits c.put_u8-3.ensures.fits c.requires.fits (λ i. omega (arith, c.type_inv.packages i)) c.requires.whole
