use Rattle.std.proofs.Common.{ap, ◌∙◌}
use Rattle.mmt_pace.specs.Spanned.{has_thing}
use Rattle.mmt_pace.proofs.spans.run_in.Goals as goal

pub returns-in-Units-clause-among : goal.returns-in-Units-clause-among
returns-in-Units-clause-among c = λ n l. ap (λ t. has_thing c.args.cast.now t n c.args.carries) c.in-Units.is ∙ c.units_in.ensures.among c.args.cast.now n
