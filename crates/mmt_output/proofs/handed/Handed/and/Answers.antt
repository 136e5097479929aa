use Rattle.mmt_output.proofs.Amounts.{amounts_joined}
use Rattle.mmt_output.proofs.handed.Handed.and.Goals as goal

pub returns-clause-amounts : goal.returns-clause-amounts
returns-clause-amounts c = λ first rest first_is rest_is. amounts_joined c.args.self c.args.later c.saturating_add.result c.saturating_add-2.result first rest c.saturating_add.ensures c.saturating_add-2.ensures first_is rest_is
