use Rattle.std.proofs.Common.{◌≡◌, ◌+◌, arith, refl, sym, ◌∙◌}
use Rattle.mmt_made.proofs.Lists.{no-numbers, one-more}
use Rattle.mmt_made.specs.Generator.{au_of}
use Rattle.mmt_made.proofs.tracks.aus.Goals as goal

pub loop-k-init : goal.loop-k-init
loop-k-init c = c.new-list.ensures ∙ sym (no-numbers (au_of c.args.track.now) 0)

pub loop-k-preserved : goal.loop-k-preserved
loop-k-preserved c =
    let z : c.loop-k.k ≡ 0 + c.loop-k.k = omega arith in
    one-more (au_of c.args.track.now) 0 c.loop-k.k c.loop-k.k c.loop-k.list c.push.new.self _ c.loop-k.invariant c.in-Ok.ensures.pushed z refl
