use Rattle.std.proofs.Common.{arith}
use Rattle.mmt_casting.proofs.Counts.{count-parameters, count-table, parts-few, table-short}
use Rattle.mmt_casting.proofs.OwnNames.{names-fit}
use Rattle.mmt_casting.proofs.Sendings.{programme-fits}
use Rattle.mmt_casting.proofs.counting.message_packets.Goals as goal

pub message_length-bytes-requires-clause-fits : goal.message_length-bytes-requires-clause-fits
message_length-bytes-requires-clause-fits c = programme-fits c.args.programme.now c.requires.right

pub overflow_cast-bytes : goal.overflow_cast-bytes
overflow_cast-bytes c =
    omega (arith, table-short c.args.programme.now c.args.s c.message_length-bytes.result c.args.signal.now c.in-Table.at c.in-Table.names c.as_slice.result.now c.in-Table.is c.as_slice.ensures c.message_length-bytes.ensures.value c.requires.short)

pub returns-in-Parameters-clause-count : goal.returns-in-Parameters-clause-count
returns-in-Parameters-clause-count c = count-parameters c.args.programme.now c.args.s c.args.signal.now c.in-Parameters.at c.in-Parameters.is

pub returns-in-Table-clause-count : goal.returns-in-Table-clause-count
returns-in-Table-clause-count c =
    count-table c.args.programme.now c.args.s c.parts.result c.message_length-bytes.result c.args.signal.now c.in-Table.at c.in-Table.names c.as_slice.result.now c.in-Table.is c.as_slice.ensures c.message_length-bytes.ensures.value c.parts.ensures

pub returns-in-Table-clause-few : goal.returns-in-Table-clause-few
returns-in-Table-clause-few c =
    omega (
      arith,
      table-short c.args.programme.now c.args.s c.message_length-bytes.result c.args.signal.now c.in-Table.at c.in-Table.names c.as_slice.result.now c.in-Table.is c.as_slice.ensures c.message_length-bytes.ensures.value c.requires.short,
      parts-few c.message_length-bytes.result c.args.programme.now.limit (omega (arith, c.requires.right.limit_low)),
      c.parts.ensures,
    )

pub message_length-bytes-requires-clause-names : goal.message_length-bytes-requires-clause-names
message_length-bytes-requires-clause-names c = names-fit c.args.programme.now c.args.signal.now c.in-Table.at c.in-Table.names c.as_slice.result.now c.in-Table.is c.as_slice.ensures c.requires.names
