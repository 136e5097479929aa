use Rattle.std.proofs.Common.{arith, refl}
use Rattle.mmt_casting.proofs.Copied.{copy-made, copy-none, table-some}
use Rattle.mmt_casting.proofs.copies.copy_of.Goals as goal

pub overflow_sub-result : goal.overflow_sub-result
overflow_sub-result c = omega (arith, table-some c.args.programme.now c.requires.right c.args.place.signal c.args.signal.now c.in-Table.at c.in-Table.names c.in-Table.is, c.message_packets-count.ensures.count)

pub returns-in-Parameters : goal.returns-in-Parameters
returns-in-Parameters c = copy-none c.args.programme.now c.args.place.signal _ c.args.signal.now c.in-Parameters.at c.in-Parameters.is

pub returns-in_ok-names-in-Table : goal.returns-in_ok-names-in-Table
returns-in_ok-names-in-Table c =
    copy-made c.args.programme.now c.args.place.signal c.args.place.number c.message_packets-count.result _ c.in_ok-names-in-Table.names c.args.signal.now c.in-Table.at c.in-Table.names c.as_slice.result.now c.in-Table.is c.as_slice.ensures
    c.in_ok-names-in-Table.ensures c.message_packets-count.ensures.count refl
