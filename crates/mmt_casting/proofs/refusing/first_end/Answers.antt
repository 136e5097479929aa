use Rattle.std.proofs.Common.{sym}
use Rattle.mmt_casting.proofs.Counts.{no-end}
use Rattle.mmt_casting.proofs.Sendings.{programme-fits}
use Rattle.mmt_casting.proofs.Whole.{end-by-packets, end-by-tables, end-by-times}
use Rattle.mmt_casting.proofs.refusing.first_end.Goals as goal

pub mpus_end-times-requires : goal.mpus_end-times-requires
mpus_end-times-requires c = programme-fits c.args.programme.now c.requires

pub returns-then-is_some : goal.returns-then-is_some
returns-then-is_some c = end-by-times c.args.programme.now c.mpus_end-times.result c.mpus_end-times.ensures c.if-is_some.ensures

pub returns-then-is_some-2 : goal.returns-then-is_some-2
returns-then-is_some-2 c = end-by-tables c.args.programme.now c.mpus_end-times.result c.tables_end-tables.result c.mpus_end-times.ensures c.if-is_some.ensures c.tables_end-tables.ensures c.if-is_some-2.ensures

pub packets_of-requires-clause-short : goal.packets_of-requires-clause-short
packets_of-requires-clause-short c = no-end _ c.tables_end-tables.result c.tables_end-tables.ensures (sym c.if-is_some-2.ensures)

pub returns : goal.returns
returns c =
    end-by-packets c.args.programme.now c.packets_of.result c.mpus_end-times.result c.tables_end-tables.result c.packets_end.result c.mpus_end-times.ensures c.if-is_some.ensures c.tables_end-tables.ensures c.if-is_some-2.ensures
    c.packets_of.ensures c.packets_end.ensures
