use Rattle.std.proofs.Common.{◌+◌, ◌*◌, refl, sym, ◌∙◌}
use Rattle.mmt_made.proofs.Lists.{no-numbers, one-more}
use Rattle.mmt_made.specs.Generator.{unit_of}
use Rattle.mmt_made.proofs.tracks.units.Goals as goal

pub loop-k-init : goal.loop-k-init
loop-k-init c = c.new-list.ensures ∙ sym (no-numbers (unit_of c.args.track.now) (c.args.mpu * c.args.track.now.per_mpu))

pub loop-k-preserved : goal.loop-k-preserved
loop-k-preserved c =
    one-more (unit_of c.args.track.now) (c.args.mpu * c.args.track.now.per_mpu) c.loop-k.k (c.args.mpu * c.args.track.now.per_mpu + c.loop-k.k) c.loop-k.list c.push.new.self c.unit.result c.loop-k.invariant c.in-Ok.ensures.pushed refl c.unit.ensures
