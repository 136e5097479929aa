use Rattle.std.proofs.Common.{arith}
use Rattle.mmt_lists.proofs.Variants.{is_found_if, is_only_if}
use Rattle.mmt_mpt.specs.TableView.{view}
use Rattle.mmt_mpt.proofs.TableLaw.{mpt_format}
use Rattle.mmt_mpt.proofs.reading_mpt.read_mpt.Goals as goal

pub returns-clause-found : goal.returns-clause-found
returns-clause-found c = is_found_if mpt_format view c.args.table.now c.mpt_from.result (λ i. omega (arith, c.type_inv.table i)) c.requires.id c.mpt_from.ensures.gives

pub returns-clause-only : goal.returns-clause-only
returns-clause-only c = is_only_if mpt_format view c.args.table.now c.mpt_from.result c.mpt_from.ensures.gives
