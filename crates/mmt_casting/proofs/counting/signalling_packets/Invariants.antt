use Rattle.std.proofs.Common.{◌≡◌, ◌≤◌, ◌+◌, ◌*◌, drop, None}
use Rattle.mmt_cast.specs.Placing.{map_from}
use Rattle.mmt_cast.specs.Refusing.{refusal_of_signals}
use Rattle.mmt_cast.specs.Sending.{sending_of_signal}
use Rattle.mmt_casting.proofs.Sendings.{packets_in}
use Rattle.mmt_casting.proofs.counting.signalling_packets.Given as goal

abbrev pub invariant-loop-s : goal.invariant-loop-s
invariant-loop-s l = record {
  count : packets_in l.programme (map_from (sending_of_signal l.programme) 0 l.signals) ≡ l.count + packets_in l.programme (map_from (sending_of_signal l.programme) l.s (drop l.s l.signals));
  short : refusal_of_signals l.programme l.s (drop l.s l.signals) ≡ None;
  few : l.count ≤ l.s * 65547;
}
