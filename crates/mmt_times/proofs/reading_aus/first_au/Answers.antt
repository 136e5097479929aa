use Rattle.mmt_times.proofs.TimesSteps.{aus_first, aus_zero, aus_err}
use Rattle.std.proofs.Common.{arith}
use Rattle.mmt_times.proofs.reading_aus.first_au.Goals as goal

pub returns-then-left-eq0-clause-first : goal.returns-then-left-eq0-clause-first
returns-then-left-eq0-clause-first c = aus_zero c.args.each c.args.left c.args.bytes.now c.if-left-eq0.true

pub returns-in-Ok-clause-first : goal.returns-in-Ok-clause-first
returns-in-Ok-clause-first c = aus_first c.args.each c.args.left c.args.bytes.now _ (omega arith) c.in-Ok.ensures.gives

pub returns-in-Err-clause-first : goal.returns-in-Err-clause-first
returns-in-Err-clause-first c = aus_err c.args.each c.args.left c.args.bytes.now _ c.in-Err.ensures.gives
