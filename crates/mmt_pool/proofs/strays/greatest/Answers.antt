use Rattle.mmt_pool.proofs.QueueOrder.{le-greatest, none_queued}
use Rattle.mmt_pool.proofs.strays.greatest.Goals as goal

pub returns-in-Some : goal.returns-in-Some
returns-in-Some c = (c.in-Some.ensures.member, λ r h. le-greatest c.in-Some.queued.now r (c.in-Some.ensures.greatest r h))

pub returns-in-None : goal.returns-in-None
returns-in-None c = none_queued c.args.strays.now.keys (λ l. let n = c.in-None.ensures.variant.1 l in cc)
