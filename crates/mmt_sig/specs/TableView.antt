-- What contracts see of a table.
use Rattle.mmt_sig.specs.declared.table.Table.{Table}
use Rattle.mmt_sig.specs.declared.table.Whole.{Whole}
use Rattle.mmt_sig.specs.Tables.{ListedTable, OwnTable}

-- a table without where it lies in memory
abbrev pub view_table : Table → ListedTable
view_table t = record { id = t.id; version = t.version; listed = t.listed; bytes = t.bytes.now }

-- the same of a table that is not listed
abbrev pub view_own : Whole → OwnTable
view_own t = record { id = t.id; version = t.version; bytes = t.bytes.now }
