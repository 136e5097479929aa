use Rattle.mmt_sig.proofs.TableSteps.{tables_first, no_entry, no_table}
use Rattle.mmt_sig.proofs.reading_tables.first_table.Goals as goal

pub returns-in-Err-clause-first : goal.returns-in-Err-clause-first
returns-in-Err-clause-first c = no_entry c.args.left c.args.entry c.args.directory.now c.args.at c.args.bytes.now _ c.in-Err.ensures.gives

pub returns-in-Err-table_at-clause-first : goal.returns-in-Err-table_at-clause-first
returns-in-Err-table_at-clause-first c = no_table c.args.left c.args.entry c.args.directory.now c.args.at c.args.bytes.now _ c.in-Err-table_at.ensures.gives

pub returns-clause-first : goal.returns-clause-first
returns-clause-first c = tables_first c.args.left c.args.entry c.args.directory.now c.args.at c.args.bytes.now _ _ c.requires c.in-Ok.ensures.gives c.in-Ok-table_at.ensures.gives
