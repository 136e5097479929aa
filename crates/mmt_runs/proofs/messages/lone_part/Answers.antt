use Rattle.std.proofs.Common.{sym, ◌∙◌}
use Rattle.mmt_runs.proofs.LoneParts.{none_at, some_at}
use Rattle.mmt_runs.proofs.messages.lone_part.Goals as goal

pub returns-in-Some : goal.returns-in-Some
returns-in-Some c = c.lone_message.ensures ∙ sym (some_at c.args.pool.now.kept _ _ c.in-Some.bytes.now (sym c.in-Some.ensures.bytes))

pub returns-in-None : goal.returns-in-None
returns-in-None c = sym (none_at c.args.pool.now.kept _ _ (sym c.in-None.ensures.bytes))
