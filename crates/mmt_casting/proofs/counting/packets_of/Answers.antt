use Rattle.mmt_casting.proofs.Sendings.{all-counted}
use Rattle.mmt_casting.proofs.counting.packets_of.Goals as goal

pub returns : goal.returns
returns c = all-counted c.args.programme.now c.signalling_packets.result c.media_packets.result c.signalling_packets.ensures.count c.media_packets.ensures.count
