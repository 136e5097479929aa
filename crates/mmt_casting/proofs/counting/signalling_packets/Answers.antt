use Rattle.std.proofs.Common.{arith, ap, ◌∙◌}
use Rattle.mmt_cast.specs.Placing.{map_from}
use Rattle.mmt_cast.specs.Refusing.{refusal_of_signals}
use Rattle.mmt_cast.specs.Sending.{packet_count, sending_of_signal}
use Rattle.mmt_casting.proofs.Counts.{signal-here, signals-later}
use Rattle.mmt_casting.proofs.Sendings.{packets_in, signals-counted, signals-done}
use Rattle.mmt_casting.proofs.OwnNames.{signal-fits}
use Rattle.mmt_casting.proofs.counting.signalling_packets.Goals as goal

pub loop-s-init : goal.loop-s-init
loop-s-init c = record {
  count = omega arith;
  short = ap (refusal_of_signals c.args.programme.now 0) c.as_slice-signals.ensures ∙ c.requires.short;
  few = omega arith;
}

pub message_packets-requires-clause-short : goal.message_packets-requires-clause-short
message_packets-requires-clause-short c =
    signal-here c.args.programme.now c.loop-s.s c.as_slice-signals.result.now c.index-signals-s.result c.loop-s-test.true c.index-signals-s.is c.loop-s.invariant.short

pub loop-s-preserved : goal.loop-s-preserved
loop-s-preserved c =
    let n = signals-counted c.args.programme.now c.loop-s.s c.as_slice-signals.result.now c.index-signals-s.result c.loop-s-test.true in
    let i = ap (λ x. packet_count c.args.programme.now (sending_of_signal c.args.programme.now c.loop-s.s x)) c.index-signals-s.is in
    record {
      count = omega (arith, c.loop-s.invariant.count, n, i, c.message_packets.ensures.count);
      short = signals-later c.args.programme.now c.loop-s.s c.as_slice-signals.result.now c.index-signals-s.result c.loop-s-test.true c.index-signals-s.is c.loop-s.invariant.short;
      few = omega (arith, c.loop-s.invariant.few, c.message_packets.ensures.few);
    }

pub returns-clause-count : goal.returns-clause-count
returns-clause-count c =
    omega (
      arith,
      c.loop-s.invariant.count,
      signals-done c.args.programme.now c.loop-s.s c.as_slice-signals.result.now c.loop-s-test.false,
      ap (λ xs. packets_in c.args.programme.now (map_from (sending_of_signal c.args.programme.now) 0 xs)) c.as_slice-signals.ensures,
    )

pub message_packets-requires-clause-names : goal.message_packets-requires-clause-names
message_packets-requires-clause-names c = signal-fits c.args.programme.now c.requires.right c.loop-s.s c.as_slice-signals.result.now c.index-signals-s.result c.as_slice-signals.ensures c.loop-s-test.true c.index-signals-s.is
