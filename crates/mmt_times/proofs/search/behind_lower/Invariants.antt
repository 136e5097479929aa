use Rattle.std.proofs.Common.{◌≡◌, ℕ, ◌≤◌}
use Rattle.mmt_times.specs.NamesOf.{for_mpu}
use Rattle.mmt_times.specs.NamesLeft.{candidates_left, size_of}
use Rattle.mmt_times.proofs.search.behind_lower.Given as goal

abbrev pub invariant-loop-after : goal.invariant-loop-after
invariant-loop-after l = (number : ℕ) → l.mpu ≤ number → for_mpu number (candidates_left l.rest) ≡ for_mpu number (candidates_left l.candidates)

abbrev pub decreases-loop-after : goal.decreases-loop-after
decreases-loop-after l = size_of l.rest
