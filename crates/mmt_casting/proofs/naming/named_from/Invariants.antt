use Rattle.std.proofs.Common.{◌-◌, drop}
use Rattle.mmt_casting.specs.Named.{AreNamed}
use Rattle.mmt_casting.proofs.naming.named_from.Given as goal

abbrev pub invariant-loop-i : goal.invariant-loop-i
invariant-loop-i l = AreNamed l.mpus (drop (l.count - l.i) l.copies) l.named.items
