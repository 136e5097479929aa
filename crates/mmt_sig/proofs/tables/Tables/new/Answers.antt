use Rattle.std.proofs.Common.{arith}
use Rattle.mmt_sig.proofs.Within.{tables_within, tables_begin}
use Rattle.mmt_sig.proofs.tables.Tables.new.Goals as goal

pub returns-clause-within : goal.returns-clause-within
returns-clause-within c = tables_within c.args.count 8 c.args.directory.now c.args.at c.args.bytes.now (λ i. omega (arith, c.type_inv.bytes i))

pub returns-clause-begin : goal.returns-clause-begin
returns-clause-begin c = tables_begin c.args.count 8 c.args.directory.now c.args.at c.args.bytes.now (λ i. omega (arith, c.type_inv.bytes i))
