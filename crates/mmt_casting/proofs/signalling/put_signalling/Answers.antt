use Rattle.std.proofs.Common.{◌≡◌, ◌<◌, List, length, get_or, arith, ap, sym, ◌∙◌}
use Rattle.mmt_cast.specs.Refusing.{refusal_of_signals}
use Rattle.mmt_casting.proofs.Announced.{message-numbers, number-first, number-more, packets-done, packets-first, packets-next}
use Rattle.mmt_casting.proofs.Counts.{signal-here, signals-later, tables-none}
use Rattle.mmt_model.specs.declared.programmes.Signal.{Signal}
use Rattle.mmt_casting.proofs.OwnNames.{signal-fits}
use Rattle.mmt_casting.proofs.signalling.put_signalling.Goals as goal

pub loop-s-init : goal.loop-s-init
loop-s-init c = record {
  packets = c.requires.empty ∙ sym (packets-first c.args.programme.now);
  number = sym (number-first c.args.programme.now);
  short = ap (refusal_of_signals c.args.programme.now 0) c.as_slice-signals.ensures ∙ tables-none c.args.programme.now c.requires.none;
}

pub put_message-requires-clause-short : goal.put_message-requires-clause-short
put_message-requires-clause-short c = signal-here c.args.programme.now c.loop-s.s c.as_slice-signals.result.now c.index-signals-s.result c.loop-s-test.true c.index-signals-s.is c.loop-s.invariant.short

pub put_message-requires-clause-numbers : goal.put_message-requires-clause-numbers
put_message-requires-clause-numbers c =
    let here : c.index-signals-s.result ≡ get_or c.args.programme.now.signals c.loop-s.s c.index-signals-s.result = c.index-signals-s.is ∙ ap (λ xs. get_or xs c.loop-s.s c.index-signals-s.result) c.as_slice-signals.ensures in
    let l : c.loop-s.s < length c.args.programme.now.signals = omega (arith, c.loop-s-test.true, ap (λ (xs : List Signal). length xs) c.as_slice-signals.ensures) in
    omega (arith, message-numbers c.args.programme.now c.loop-s.s c.index-signals-s.result c.index-signals-s.result c.requires.none l here, c.loop-s.invariant.number)

pub message_packets-number-requires-clause-short : goal.message_packets-number-requires-clause-short
message_packets-number-requires-clause-short c = signal-here c.args.programme.now c.loop-s.s c.as_slice-signals.result.now c.index-signals-s.result c.loop-s-test.true c.index-signals-s.is c.loop-s.invariant.short

pub overflow_add-number : goal.overflow_add-number
overflow_add-number c =
    let here : c.index-signals-s.result ≡ get_or c.args.programme.now.signals c.loop-s.s c.index-signals-s.result = c.index-signals-s.is ∙ ap (λ xs. get_or xs c.loop-s.s c.index-signals-s.result) c.as_slice-signals.ensures in
    let l : c.loop-s.s < length c.args.programme.now.signals = omega (arith, c.loop-s-test.true, ap (λ (xs : List Signal). length xs) c.as_slice-signals.ensures) in
    omega (arith, message-numbers c.args.programme.now c.loop-s.s c.index-signals-s.result c.index-signals-s.result c.requires.none l here, c.loop-s.invariant.number, c.message_packets-number.ensures.count)

pub loop-s-preserved : goal.loop-s-preserved
loop-s-preserved c =
    let here : c.index-signals-s.result ≡ get_or c.args.programme.now.signals c.loop-s.s c.index-signals-s.result = c.index-signals-s.is ∙ ap (λ xs. get_or xs c.loop-s.s c.index-signals-s.result) c.as_slice-signals.ensures in
    let l : c.loop-s.s < length c.args.programme.now.signals = omega (arith, c.loop-s-test.true, ap (λ (xs : List Signal). length xs) c.as_slice-signals.ensures) in
    record {
      packets = packets-next c.args.programme.now c.loop-s.s c.loop-s.number c.index-signals-s.result c.index-signals-s.result c.loop-s.out.items c.put_message.new.out.items l here c.loop-s.invariant.number c.loop-s.invariant.packets c.in_ok-put_message.ensures;
      number = omega (arith, number-more c.args.programme.now c.loop-s.s c.index-signals-s.result c.index-signals-s.result l here, c.loop-s.invariant.number, c.message_packets-number.ensures.count);
      short = signals-later c.args.programme.now c.loop-s.s c.as_slice-signals.result.now c.index-signals-s.result c.loop-s-test.true c.index-signals-s.is c.loop-s.invariant.short;
    }

pub returns : goal.returns
returns c =
    packets-done c.args.programme.now c.loop-s.s c.loop-s.out.items (omega (arith, c.loop-s-test.false, ap (λ (xs : List Signal). length xs) c.as_slice-signals.ensures)) c.loop-s.invariant.packets

pub put_message-requires-clause-names : goal.put_message-requires-clause-names
put_message-requires-clause-names c = signal-fits c.args.programme.now c.requires.right c.loop-s.s c.as_slice-signals.result.now c.index-signals-s.result c.as_slice-signals.ensures c.loop-s-test.true c.index-signals-s.is

pub message_packets-number-requires-clause-names : goal.message_packets-number-requires-clause-names
message_packets-number-requires-clause-names c = signal-fits c.args.programme.now c.requires.right c.loop-s.s c.as_slice-signals.result.now c.index-signals-s.result c.as_slice-signals.ensures c.loop-s-test.true c.index-signals-s.is
