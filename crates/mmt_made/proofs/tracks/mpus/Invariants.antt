use Rattle.std.proofs.Common.{◌≡◌, map}
use Rattle.mmt_made.specs.Generator.{mpu_of}
use Rattle.mmt_model.specs.Carrying.{numbers}
use Rattle.mmt_made.proofs.tracks.mpus.Given as goal

abbrev pub invariant-loop-b : goal.invariant-loop-b
invariant-loop-b l = l.list ≡ map (mpu_of l.track) (numbers 0 l.b)
