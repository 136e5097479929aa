use Rattle.std.proofs.Common.{◌≡◌, length}
use Rattle.mmt_times.specs.NamesOf.{for_mpu}
use Rattle.mmt_times.specs.NamesLeft.{candidates_left}
use Rattle.mmt_times.proofs.trying.first_for.Given as goal

abbrev pub invariant-loop-candidate : goal.invariant-loop-candidate
invariant-loop-candidate l = for_mpu l.mpu (candidates_left l.rest) ≡ for_mpu l.mpu (candidates_left l.candidates)

abbrev pub decreases-loop-candidate : goal.decreases-loop-candidate
decreases-loop-candidate l = length (candidates_left l.rest)
