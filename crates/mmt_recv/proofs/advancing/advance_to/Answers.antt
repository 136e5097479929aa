use Rattle.std.proofs.Common.{sym, subst}
use Rattle.mmt_runs.specs.Told.{IsTold}
use Rattle.mmt_runs.proofs.Spans.{forgotten_told}
use Rattle.mmt_recv.proofs.advancing.advance_to.Goals as goal

pub expire-requires : goal.expire-requires
expire-requires g c =
    subst (λ n. IsTold c.args.runs.now c.args.pool.now.kept n) (sym c.forget.ensures.entries) (forgotten_told c.args.runs.now c.args.pool.now.kept c.args.names.now c.args.from.0 c.args.to.0 c.requires)
