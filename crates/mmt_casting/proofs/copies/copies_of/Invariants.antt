use Rattle.std.proofs.Common.{◌≡◌, drop, take, None}
use Rattle.mmt_cast.specs.Casting.{copy_as_sent}
use Rattle.mmt_cast.specs.Placing.{flat_map_from}
use Rattle.mmt_cast.specs.Refusing.{refusal_of_signals}
use Rattle.mmt_casting.proofs.Announced.{number_before}
use Rattle.mmt_casting.proofs.copies.copies_of.Given as goal

abbrev pub invariant-loop-s : goal.invariant-loop-s
invariant-loop-s l = record {
  copies : l.copies.items ≡ flat_map_from (copy_as_sent l.programme) 0 (take l.s l.programme.signals);
  number : l.number ≡ number_before l.programme l.s;
  short : refusal_of_signals l.programme l.s (drop l.s l.signals) ≡ None;
}
