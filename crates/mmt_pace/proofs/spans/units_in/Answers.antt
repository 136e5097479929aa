use Rattle.mmt_pace.proofs.Widening.{fragment-unit, group-unit, parameters-unit, part-unit, table-unit, whole-unit}
use Rattle.mmt_pace.proofs.spans.units_in.Goals as goal

pub returns-in-Whole-clause-among : goal.returns-in-Whole-clause-among
returns-in-Whole-clause-among c = λ cast n. whole-unit n c.in-Whole.unit c.args.carries c.in-Whole.is

pub returns-in-Fragment-clause-among : goal.returns-in-Fragment-clause-among
returns-in-Fragment-clause-among c = λ cast n. fragment-unit n c.in-Fragment.unit c.in-Fragment.number c.args.carries c.in-Fragment.is

pub returns-in-Group-clause-among : goal.returns-in-Group-clause-among
returns-in-Group-clause-among c = λ cast n. group-unit n c.in-Group.first c.in-Group.count c.args.carries c.in-Group.is

pub returns-in-Parameters-clause-among : goal.returns-in-Parameters-clause-among
returns-in-Parameters-clause-among c = λ cast n. parameters-unit n c.in-Parameters.signal c.args.carries c.no_run.result c.in-Parameters.is c.no_run.ensures

pub returns-in-Table-clause-among : goal.returns-in-Table-clause-among
returns-in-Table-clause-among c = λ cast n. table-unit n c.in-Table.signal c.args.carries c.no_run-in-Table.result c.in-Table.is c.no_run-in-Table.ensures

pub returns-in-TablePart-clause-among : goal.returns-in-TablePart-clause-among
returns-in-TablePart-clause-among c = λ cast n. part-unit n c.in-TablePart.signal c.in-TablePart.number c.args.carries c.no_run-in-TablePart.result c.in-TablePart.is c.no_run-in-TablePart.ensures
