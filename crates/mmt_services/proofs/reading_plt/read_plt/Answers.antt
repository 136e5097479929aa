use Rattle.std.proofs.Common.{arith}
use Rattle.mmt_lists.proofs.Variants.{is_found_if, is_only_if}
use Rattle.mmt_services.specs.TableView.{view}
use Rattle.mmt_services.proofs.TableLaw.{plt_format}
use Rattle.mmt_services.proofs.reading_plt.read_plt.Goals as goal

pub returns-clause-found : goal.returns-clause-found
returns-clause-found c = is_found_if plt_format view c.args.table.now c.plt_from.result (λ i. omega (arith, c.type_inv.table i)) c.requires.id c.plt_from.ensures.gives

pub returns-clause-only : goal.returns-clause-only
returns-clause-only c = is_only_if plt_format view c.args.table.now c.plt_from.result c.plt_from.ensures.gives
