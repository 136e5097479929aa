use Rattle.mmt_sig.proofs.TableSteps.{tables_zero}
use Rattle.mmt_sig.proofs.tables.TablesIterator.next.Goals as goal

pub returns-then-self-eq0-clause-steps : goal.returns-then-self-eq0-clause-steps
returns-then-self-eq0-clause-steps c =
    let none = tables_zero c.args.self.now.left c.args.self.now.entry c.args.self.now.directory.now c.args.self.now.at c.args.self.now.rest.now c.if-self-eq0.true in
    (none, none)
