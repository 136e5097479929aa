use Rattle.std.proofs.Common.{◌≡◌, ◌<◌, ◌||◌, Bool, not, ℕ, arith, ap, ap₂, ◌∙◌}
use Rattle.std.proofs.lemmas.Bool.Decides.{nat_tests}
use Rattle.mmt_admit.proofs.Keys.{key-first, key-later}
use Rattle.mmt_model.specs.Admission.{sample_or_item, unless}
use Rattle.mmt_admit.proofs.rising.key_fault.Goals as goal

pub returns-then-u-eq0 : goal.returns-then-u-eq0
returns-then-u-eq0 c = let z : c.args.u ≡ 0 = grind (arith, nat_tests) in key-first c.args.cast.now c.args.u z

pub returns : goal.returns
returns c =
    let some : 0 < c.args.u = grind (arith, nat_tests) in
    c.unless.ensures
    ∙ (ap₂ (λ (a b : ℕ). unless c.either-rises.result 8 c.args.u a b) c.number_of.ensures c.number_of-2.ensures
    ∙ (ap (λ (t : Bool). unless t 8 c.args.u (sample_or_item c.unit_at-unit.result.key) (sample_or_item c.unit_at-before.result.key)) (c.either-rises.ensures ∙ ap₂ (λ (s t : Bool). not s || t) c.is_together-together.ensures c.comes_before.ensures)
    ∙ key-later c.args.cast.now c.args.u c.unit_at-before.result c.unit_at-unit.result some c.unit_at-before.ensures c.unit_at-unit.ensures))
