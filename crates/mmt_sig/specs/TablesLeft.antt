-- The tables that bytes have left.
use Rattle.std.specs.Prelude.{ℕ, List}
use Rattle.mmt_lists.specs.Counted.{counted}
use Rattle.mmt_sig.specs.Tables.{ListedTable, listed_tables}
use Rattle.mmt_sig.specs.MessageReading.{listed_at, table_at}

-- so many tables with their directory entries, up to the first that does not fit
abbrev pub tables_by : ℕ → ℕ → List ℕ → ℕ → List ℕ → List ListedTable
tables_by n entry directory at bytes = listed_tables (counted n listed_at entry directory).items (counted n table_at at bytes).items
