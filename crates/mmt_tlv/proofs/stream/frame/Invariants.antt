use Rattle.std.proofs.Common.{[], take, flat_map}
use Rattle.mmt_tlv.specs.Frames.{Cuts, bytes_of}
use Rattle.mmt_tlv.proofs.stream.frame.Given as goal

abbrev pub invariant-loop-piece : goal.invariant-loop-piece
invariant-loop-piece l = Cuts (flat_map bytes_of (take l.piece-index l.pieces)) [] l.cutter l.packets.items
