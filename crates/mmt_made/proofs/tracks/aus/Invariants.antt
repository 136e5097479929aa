use Rattle.std.proofs.Common.{◌≡◌, map}
use Rattle.mmt_made.specs.Generator.{au_of}
use Rattle.mmt_model.specs.Carrying.{numbers}
use Rattle.mmt_made.proofs.tracks.aus.Given as goal

abbrev pub invariant-loop-k : goal.invariant-loop-k
invariant-loop-k l = l.list ≡ map (au_of l.track) (numbers 0 l.k)
