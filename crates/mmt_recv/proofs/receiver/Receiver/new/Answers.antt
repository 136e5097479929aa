use Rattle.mmt_recv.proofs.Ending.{new_stands}
use Rattle.mmt_recv.proofs.receiver.Receiver.new.Goals as goal

pub returns-clause-stands : goal.returns-clause-stands
returns-clause-stands c = new_stands c.args.config c.in_ok-hearer.hearer c.in_ok-pool.pool c.in_ok-names.names c.in_ok-hearer.ensures c.in_ok-pool.ensures c.in_ok-names.ensures
