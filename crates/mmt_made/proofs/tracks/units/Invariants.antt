use Rattle.std.proofs.Common.{◌≡◌, ◌*◌, map}
use Rattle.mmt_made.specs.Generator.{unit_of}
use Rattle.mmt_model.specs.Carrying.{numbers}
use Rattle.mmt_made.proofs.tracks.units.Given as goal

abbrev pub invariant-loop-k : goal.invariant-loop-k
invariant-loop-k l = l.list ≡ map (unit_of l.track) (numbers (l.mpu * l.track.per_mpu) l.k)
