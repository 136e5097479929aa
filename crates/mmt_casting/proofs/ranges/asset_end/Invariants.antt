use Rattle.std.proofs.Common.{◌≡◌}
use Rattle.mmt_cast.specs.Placing.{mpus_of}
use Rattle.mmt_cast.specs.Refusing.{refusal_of_mpus}
use Rattle.mmt_casting.proofs.FirstOut.{refusal_from}
use Rattle.mmt_casting.proofs.ranges.asset_end.Given as goal

abbrev pub invariant-loop-b : goal.invariant-loop-b
invariant-loop-b l = refusal_of_mpus (mpus_of l.a l.asset) ≡ refusal_from l.a l.asset l.b
