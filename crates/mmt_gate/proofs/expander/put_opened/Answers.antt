use Rattle.std.proofs.Common.{rules}
use Rattle.mmt_gate.proofs.Expanded.{expands_short}
use Rattle.mmt_gate.proofs.expander.put_opened.Goals as goal

pub returns-in-Ok-clause-expands : goal.returns-in-Ok-clause-expands
returns-in-Ok-clause-expands c =
    expands_short c.args.out.now.items c.put_plain.new.out.items c.args.header c.args.payload.now (search rules) c.in-Ok.ensures.ok
