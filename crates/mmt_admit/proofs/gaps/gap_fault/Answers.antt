use Rattle.std.proofs.Common.{◌≡◌, ◌<◌, arith, ap₂, ◌∙◌}
use Rattle.std.proofs.lemmas.Bool.Decides.{nat_tests}
use Rattle.mmt_admit.proofs.Walking.{gap-first, gap-later}
use Rattle.mmt_model.specs.Admission.{or_else}
use Rattle.mmt_admit.proofs.gaps.gap_fault.Goals as goal

pub returns-then-n-eq0 : goal.returns-then-n-eq0
returns-then-n-eq0 c = let z : c.args.n ≡ 0 = grind (arith, nat_tests) in gap-first c.args.packets.now c.args.n z

pub returns : goal.returns
returns c =
    let some : 0 < c.args.n = grind (arith, nat_tests) in
    c.earlier.ensures ∙ ap₂ or_else c.unless.ensures c.unless-2.ensures
    ∙ gap-later c.args.packets.now c.args.n c.tick_at-before.result c.tick_at-at.result some c.tick_at-before.ensures.value c.tick_at-at.ensures.value
