use Rattle.std.proofs.Common.{ap, ◌∙◌}
use Rattle.mmt_casting.proofs.Counts.{unit-read}
use Rattle.mmt_model.specs.declared.programmes.Mpu.{Mpu}
use Rattle.mmt_casting.proofs.counting.unit_of.Goals as goal

pub returns : goal.returns
returns c = unit-read c.args.programme.now c.args.spot _ c.as_slice.result.now c.requires.spot c.requires.inside (c.as_slice.ensures ∙ ap (λ (m : Mpu). m.units) c.mpu_of.ensures)
