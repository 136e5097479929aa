use Rattle.std.proofs.Common.{◌≤◌, ◌^◌, sym, subst}
use Rattle.mmt_model.specs.Survival.{sent_at}
use Rattle.mmt_model.specs.declared.casts.Cast.{Cast}
use Rattle.mmt_pace.proofs.Asking.{casts-can-be-paced}
use Rattle.mmt_pace.proofs.Beginning.{casts-begin}
use Rattle.mmt_pace.specs.Asked.{CanBePaced}
use Rattle.mmt_pace.proofs.samples.cast_for.Goals as goal

pub returns-in-Ok-clause-can : goal.returns-in-Ok-clause-can
returns-in-Ok-clause-can c = subst CanBePaced (sym c.in-Ok.ensures.made) (casts-can-be-paced c.in_ok-programme.programme c.in_ok-programme.ensures c.in-Ok.ensures.none)

pub returns-in-Ok-clause-start : goal.returns-in-Ok-clause-start
returns-in-Ok-clause-start c = subst (λ (cast : Cast). sent_at cast.packets 0 ≤ 2 ^ 48) (sym c.in-Ok.ensures.made) (casts-begin c.in_ok-programme.programme c.in_ok-programme.ensures)
