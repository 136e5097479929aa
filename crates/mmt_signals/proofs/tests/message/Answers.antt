use Rattle.std.proofs.Common.{sym, ap, subst, arith, ◌∙◌}
use Rattle.mmt_cast.proofs.Examples.{examples}
use Rattle.mmt_cast.specs.Refusing.{refusal}
use Rattle.mmt_model.specs.Right.{IsRight}
use Rattle.mmt_sent.specs.Messages.{tables_before}
use Rattle.mmt_signals.proofs.Tables.{none_before}
use Rattle.mmt_signals.proofs.tests.message.Goals as goal

pub put_message-requires-clause-right : goal.put_message-requires-clause-right
put_message-requires-clause-right c = subst IsRight (sym c.in_ok-programme.ensures) examples.worked.one_table.right

pub put_message-requires-clause-cast : goal.put_message-requires-clause-cast
put_message-requires-clause-cast c = ap refusal c.in_ok-programme.ensures ∙ examples.worked.one_table.has_cast

pub put_message-requires-clause-at : goal.put_message-requires-clause-at
put_message-requires-clause-at c = rw c.in_ok-programme.ensures (omega (arith, c.requires))

pub put_message-requires-clause-earlier : goal.put_message-requires-clause-earlier
put_message-requires-clause-earlier c = none_before c.args.at c.requires ∙ ap (λ p. tables_before p c.args.at) (sym c.in_ok-programme.ensures)
