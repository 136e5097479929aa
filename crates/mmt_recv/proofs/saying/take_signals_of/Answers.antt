use Rattle.mmt_recv.proofs.saying.take_signals_of.Goals as goal

pub take_messages-requires-clause-count : goal.take_messages-requires-clause-count
take_messages-requires-clause-count g c = rw c.messages.ensures.messages c.requires.few
