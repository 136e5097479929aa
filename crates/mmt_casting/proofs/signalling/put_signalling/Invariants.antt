use Rattle.std.proofs.Common.{◌≡◌, drop, None}
use Rattle.mmt_cast.specs.Refusing.{refusal_of_signals}
use Rattle.mmt_casting.proofs.Announced.{number_before, packets_before}
use Rattle.mmt_casting.proofs.signalling.put_signalling.Given as goal

abbrev pub invariant-loop-s : goal.invariant-loop-s
invariant-loop-s l = record {
  packets : l.out.items ≡ packets_before l.programme l.s;
  number : l.number ≡ number_before l.programme l.s;
  short : refusal_of_signals l.programme l.s (drop l.s l.signals) ≡ None;
}
