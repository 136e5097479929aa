use Rattle.std.proofs.Common.{arith, refl}
use Rattle.mmt_casting.proofs.Announced.{parameters-all, table-all}
use Rattle.mmt_casting.proofs.Counts.{count-table, table-short}
use Rattle.mmt_casting.proofs.OwnNames.{names-fit}
use Rattle.mmt_casting.proofs.Sendings.{programme-fits}
use Rattle.mmt_frag.specs.Cuts.{parts}
use Rattle.mmt_casting.proofs.signalling.put_message.Goals as goal

pub message_length-bytes-requires-clause-fits : goal.message_length-bytes-requires-clause-fits
message_length-bytes-requires-clause-fits c = programme-fits c.args.programme.now c.requires.right

pub overflow_cast-bytes : goal.overflow_cast-bytes
overflow_cast-bytes c =
    omega (arith, table-short c.args.programme.now c.args.s c.message_length-bytes.result c.args.signal.now c.in-Table.at c.in-Table.names c.as_slice.result.now c.in-Table.is c.as_slice.ensures c.message_length-bytes.ensures.value c.requires.short)

pub put_table-requires-clause-numbers : goal.put_table-requires-clause-numbers
put_table-requires-clause-numbers c =
    omega (
      arith,
      c.requires.numbers,
      count-table c.args.programme.now c.args.s (parts c.message_length-bytes.result c.args.programme.now.limit) c.message_length-bytes.result c.args.signal.now c.in-Table.at c.in-Table.names c.as_slice.result.now c.in-Table.is c.as_slice.ensures
          c.message_length-bytes.ensures.value refl,
    )

pub returns-in_ok-push-in-Parameters : goal.returns-in_ok-push-in-Parameters
returns-in_ok-push-in-Parameters c =
    parameters-all c.args.programme.now c.args.s c.args.number c.parameters_packet.result c.args.out.now.items c.push.new.self.items c.args.signal.now c.in-Parameters.at c.in-Parameters.is (c.parameters_packet.ensures c.args.programme.now)
    c.in_ok-push-in-Parameters.ensures.items

pub returns-in_ok-put_table-in-Table : goal.returns-in_ok-put_table-in-Table
returns-in_ok-put_table-in-Table c =
    table-all c.args.programme.now c.args.s c.args.number c.message_length-bytes.result c.args.out.now.items c.put_table.new.out.items c.args.signal.now c.in-Table.at c.in-Table.names c.as_slice.result.now c.in-Table.is c.as_slice.ensures
    c.message_length-bytes.ensures.value c.in_ok-put_table-in-Table.ensures

pub message_length-bytes-requires-clause-names : goal.message_length-bytes-requires-clause-names
message_length-bytes-requires-clause-names c = names-fit c.args.programme.now c.args.signal.now c.in-Table.at c.in-Table.names c.as_slice.result.now c.in-Table.is c.as_slice.ensures c.requires.names
