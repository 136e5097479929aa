use Rattle.std.proofs.Common.{length}
use Rattle.mmt_expect.specs.Named.{AreNamedBy}
use Rattle.mmt_expect.proofs.naming.take_copies.Given as goal

abbrev pub invariant-loop-c : goal.invariant-loop-c
invariant-loop-c l = AreNamedBy l.copies l.signals l.c (length l.fn.named) l.named
