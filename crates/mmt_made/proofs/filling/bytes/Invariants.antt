use Rattle.std.proofs.Common.{◌≡◌, map}
use Rattle.mmt_made.specs.Generator.{byte_at}
use Rattle.mmt_model.specs.Carrying.{numbers}
use Rattle.mmt_made.proofs.filling.bytes.Given as goal

abbrev pub invariant-loop-place : goal.invariant-loop-place
invariant-loop-place l = l.bytes.items ≡ map (byte_at l.seed l.file) (numbers 0 l.place)
