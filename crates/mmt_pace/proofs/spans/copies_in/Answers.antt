use Rattle.mmt_model.specs.Carrying.{table_copy}
use Rattle.mmt_pace.proofs.Widening.{fragment-table, group-table, parameters-table, part-known, part-table, table-known, table-table, whole-table}
use Rattle.mmt_pace.proofs.spans.copies_in.Goals as goal

pub returns-in-Whole-clause-among : goal.returns-in-Whole-clause-among
returns-in-Whole-clause-among c = λ n l. whole-table (table_copy c.args.cast.now n).signal c.in-Whole.unit n c.args.carries c.no_run.result c.in-Whole.is c.no_run.ensures

pub returns-in-Fragment-clause-among : goal.returns-in-Fragment-clause-among
returns-in-Fragment-clause-among c = λ n l. fragment-table (table_copy c.args.cast.now n).signal c.in-Fragment.unit c.in-Fragment.number n c.args.carries c.no_run-in-Fragment.result c.in-Fragment.is c.no_run-in-Fragment.ensures

pub returns-in-Group-clause-among : goal.returns-in-Group-clause-among
returns-in-Group-clause-among c = λ n l. group-table (table_copy c.args.cast.now n).signal c.in-Group.first c.in-Group.count n c.args.carries c.no_run-in-Group.result c.in-Group.is c.no_run-in-Group.ensures

pub returns-in-Parameters-clause-among : goal.returns-in-Parameters-clause-among
returns-in-Parameters-clause-among c = λ n l. parameters-table (table_copy c.args.cast.now n).signal c.in-Parameters.signal n c.args.carries c.no_run-in-Parameters.result c.in-Parameters.is c.no_run-in-Parameters.ensures

pub returns-in-Table-clause-among : goal.returns-in-Table-clause-among
returns-in-Table-clause-among c = λ n l.
    table-table c.args.cast.now c.in-Table.signal n c.args.carries c.copy_run.result c.in-Table.is c.requires.cast.listed (table-known c.args.cast.now c.in-Table.signal c.args.carries c.in-Table.is c.requires.carried) l c.copy_run.ensures.among c.copy_run.ensures.known

pub returns-in-TablePart-clause-among : goal.returns-in-TablePart-clause-among
returns-in-TablePart-clause-among c = λ n l.
    part-table c.args.cast.now c.in-TablePart.signal c.in-TablePart.number n c.args.carries c.copy_run-in-TablePart.result c.in-TablePart.is c.requires.cast.listed
    (part-known c.args.cast.now c.in-TablePart.signal c.in-TablePart.number c.args.carries c.in-TablePart.is c.requires.carried) l c.copy_run-in-TablePart.ensures.among c.copy_run-in-TablePart.ensures.known
