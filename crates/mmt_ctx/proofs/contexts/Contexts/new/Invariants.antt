use Rattle.std.proofs.Common.{◌≡◌, None, replicate}
use Rattle.mmt_ctx.proofs.contexts.Contexts.new.Given as goal

abbrev pub invariant-loop-context : goal.invariant-loop-context
invariant-loop-context l = l.headers.items ≡ replicate l.context None
