use Rattle.std.proofs.Common.{◌≡◌, ◌+◌, arith, sym, ◌∙◌}
use Rattle.mmt_made.proofs.Lists.{no-numbers, one-more}
use Rattle.mmt_made.specs.Generator.{mpu_of}
use Rattle.mmt_made.proofs.tracks.mpus.Goals as goal

pub loop-b-init : goal.loop-b-init
loop-b-init c = c.new-list.ensures ∙ sym (no-numbers (mpu_of c.args.track.now) 0)

pub loop-b-preserved : goal.loop-b-preserved
loop-b-preserved c =
    let z : c.loop-b.b ≡ 0 + c.loop-b.b = omega arith in
    one-more (mpu_of c.args.track.now) 0 c.loop-b.b c.loop-b.b c.loop-b.list c.push.new.self c.in-Ok.mpu c.loop-b.invariant c.in-Ok-push.ensures.pushed z c.in-Ok.ensures
