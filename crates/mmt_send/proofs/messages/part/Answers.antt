use Rattle.mmt_send.proofs.Pieces.{piece-is}
use Rattle.mmt_send.proofs.messages.part.Goals as goal

pub returns : goal.returns
returns c = piece-is c.args.bytes.now c.args.limit c.args.number c.min-from.result c.min.result c.min-from.ensures c.min.ensures
