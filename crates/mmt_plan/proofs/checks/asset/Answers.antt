use Rattle.std.proofs.Common.{sym, ◌∙◌}
use Rattle.mmt_plan.proofs.Held.{asset as held}
use Rattle.mmt_plan.proofs.checks.asset.Goals as goal

pub returns-then-branch-clause-asset : goal.returns-then-branch-clause-asset
returns-then-branch-clause-asset g c = λ t.
    held (g.H.Shelf.file c.args.shelf.now c.args.name.now) c.args.spot c.args.asset.now c.end_of_mpus-end.result (rw c.as_slice.ensures at c.end_of_mpus-end.ensures.ends) (sym c.if-branch.true ∙ c.in_ok-has_bytes.ensures.bytes t)
