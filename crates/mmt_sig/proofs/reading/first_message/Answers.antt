use Rattle.mmt_sig.proofs.MessageSteps.{items_step}
use Rattle.mmt_sig.proofs.reading.first_message.Goals as goal

pub returns-in-Ok-clause-first : goal.returns-in-Ok-clause-first
returns-in-Ok-clause-first c = rw c.if-lone.false (items_step c.args.long c.args.at c.args.bytes.now _ c.in-Ok.ensures.gives)
