use Rattle.std.proofs.lemmas.List.{take-replicate}
use Rattle.mmt_pool.proofs.pool.zeros.Goals as goal

pub returns : goal.returns
returns c = take-replicate c.args.count 65536 0 c.requires
