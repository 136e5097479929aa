use Rattle.std.proofs.Common.{sym, ◌∙◌}
use Rattle.mmt_runs.proofs.LoneParts.{refused_lone, not_lone, is_lone}
use Rattle.mmt_runs.proofs.messages.lone_message.Goals as goal

pub returns-in-Err : goal.returns-in-Err
returns-in-Err c = sym (refused_lone _ _ c.in-Err.ensures.exact)

pub returns-then-count-ne1 : goal.returns-then-count-ne1
returns-then-count-ne1 c = sym (not_lone _ _ c.in-Ok.ensures.exact (λ e. c.if-count-ne1.true (c.count.ensures ∙ e)))

pub returns-in-Some : goal.returns-in-Some
returns-in-Some c = rw c.head.ensures (sym (is_lone _ _ c.in-Some.bytes.now _ c.in-Ok.ensures.exact (sym c.count.ensures ∙ c.if-count-ne1.false) (sym c.messages-messages.ensures.messages ∙ c.in-Some.ensures.steps)))
