-- The line of what was counted is that of the packets.
use Rattle.std.proofs.Common.{◌≡◌, List}
use Rattle.mmt_tlv.specs.Framing.{Packet}
use Rattle.mmt_peak.specs.Peaking.{line_of, line_after}
use Rattle.mmt_peak.specs.Commanding.{PeakState, HasSeen, numbers_in}

pub line_is : (c : PeakState) (packets : List Packet) → HasSeen packets c → line_of (numbers_in c) c.buffer.pool.peak ≡ line_after c.flow c.buffer.params packets
line_is c packets s = λ i. line_of
    (record { heard = s.taken.heard i; stored = (s.taken.tally i).stored; late = (s.taken.tally i).late; repeats = (s.taken.tally i).repeats; full = (s.taken.tally i).full; refused = s.refused i })
    (s.taken.peak i)
