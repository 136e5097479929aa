-- What contracts see of a message and of the iterator over its tables.
use Rattle.std.specs.Prelude.{List}
use Rattle.mmt_sig.specs.declared.pa.Pa.{Pa}
use Rattle.mmt_sig.specs.declared.tables.Tables.{Tables}
use Rattle.mmt_sig.specs.declared.reading_messages.Message.{Message}
use Rattle.mmt_sig.specs.declared.reading_messages.Message.TheVariants as messages
use Rattle.mmt_sig.specs.Tables.{ListedTable}
use Rattle.mmt_sig.specs.Message.{PaValue, MessageValue, PaMessage, HrbmMessage, OtherMessage}
use Rattle.mmt_sig.specs.TablesLeft.{tables_by}

-- a PA message without where it lies in memory
abbrev pub view_pa : Pa → PaValue
view_pa p = record { version = p.version; tables = tables_by p.count 8 p.directory.now p.at p.tables.now }

-- the tables that an iterator has yet to give
abbrev pub tables_left : Tables → List ListedTable
tables_left s = tables_by s.left s.entry s.directory.now s.at s.rest.now

-- a message without where it lies in memory
abbrev pub view_message : Message → MessageValue
view_message (messages.Pa p) = PaMessage (view_pa p)
view_message (messages.Hrbm version params) = HrbmMessage (record { version = version; params = params })
view_message (messages.Other id bytes) = OtherMessage id bytes.now
