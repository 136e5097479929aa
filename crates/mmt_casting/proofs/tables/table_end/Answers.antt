use Rattle.mmt_casting.proofs.Long.{message-long, message-plain, message-short}
use Rattle.mmt_casting.proofs.tables.table_end.Goals as goal

pub returns-in-Parameters : goal.returns-in-Parameters
returns-in-Parameters c = message-plain c.args.programme.now c.args.s c.args.signal.now c.in-Parameters.at c.in-Parameters.is

pub returns-then-table_length-le65535 : goal.returns-then-table_length-le65535
returns-then-table_length-le65535 c =
    message-short c.args.programme.now c.args.s c.table_length.result c.args.signal.now c.in-Table.at c.in-Table.names c.as_slice.result.now c.in-Table.is c.as_slice.ensures c.table_length.ensures.value c.if-table_length-le65535.true

pub returns-else-table_length-le65535 : goal.returns-else-table_length-le65535
returns-else-table_length-le65535 c =
    message-long c.args.programme.now c.args.s c.table_length.result c.args.signal.now c.in-Table.at c.in-Table.names c.as_slice.result.now c.in-Table.is c.as_slice.ensures c.table_length.ensures.value c.if-table_length-le65535.false
