use Rattle.mmt_send.proofs.Earlier.{parts-are}
use Rattle.mmt_send.proofs.messages.parts_of_table.Goals as goal

pub returns : goal.returns
returns c =
    parts-are c.args.job.now.cast.now c.as_slice-copies.result.now c.earlier_tables-place.result c.args.signal c.index-copies-place.result c.as_slice-copies.ensures
    (c.earlier_tables-place.ensures.own c.requires.known c.requires.table) (c.earlier_tables-place.ensures.listed c.requires.known c.requires.table)
