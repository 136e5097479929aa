use Rattle.mmt_expect.specs.Named.{IsLowered}
use Rattle.std.proofs.Common.{take}
use Rattle.mmt_expect.proofs.naming.lower.Given as goal

abbrev pub invariant-loop-i : goal.invariant-loop-i
invariant-loop-i l = IsLowered l.fn.numbers l.numbers (take l.i l.places) l.greatest
