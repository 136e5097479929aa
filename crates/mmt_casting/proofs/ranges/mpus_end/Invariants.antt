use Rattle.std.proofs.Common.{◌≡◌}
use Rattle.mmt_cast.specs.Placing.{all_mpus}
use Rattle.mmt_cast.specs.Refusing.{refusal_of_mpus}
use Rattle.mmt_casting.proofs.FirstOut.{refusal_of_assets}
use Rattle.mmt_casting.proofs.ranges.mpus_end.Given as goal

abbrev pub invariant-loop-a : goal.invariant-loop-a
invariant-loop-a l = refusal_of_mpus (all_mpus l.programme) ≡ refusal_of_assets l.a l.assets
