use Rattle.std.proofs.Common.{◌≡◌, map, take}
use Rattle.mmt_cast.specs.Casting.{place_of_mpu}
use Rattle.mmt_cast.specs.Placing.{all_mpus}
use Rattle.mmt_casting.proofs.copies.places_of.Given as goal

abbrev pub invariant-loop-i : goal.invariant-loop-i
invariant-loop-i l = l.places ≡ map (place_of_mpu (all_mpus l.programme)) (take l.i l.names)
