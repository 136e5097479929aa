use Rattle.std.proofs.Common.{sym, ◌∙◌, ap, map, Some}
use Rattle.mmt_mpu.specs.Head.{view_unit}
use Rattle.mmt_runs.specs.Lending.{the_presentation}
use Rattle.mmt_runs.specs.Reading.{heard}
use Rattle.mmt_runs.specs.Offers.{whole_at}
use Rattle.mmt_runs.proofs.Taking.{of_place, whole_lent, whole_length}
use Rattle.mmt_runs.proofs.finding.better_whole.Goals as goal

pub returns-in-None : goal.returns-in-None
returns-in-None c = sym (c.in-None.ensures (whole_at c.args.place.now (view_unit c.args.unit.now)) (of_place c.args.place.now _ _ _))

pub new-requires : goal.new-requires
new-requires c = whole_length (map heard c.args.pool.now.kept) c.in-Some.order c.args.timed (view_unit c.args.unit.now)

pub returns : goal.returns
returns c =
    let u = view_unit c.args.unit.now in
    ap (λ x. Some x) (ap the_presentation c.new.ensures ∙ whole_lent (map heard c.args.pool.now.kept) c.in-Some.order c.args.place.now c.args.timed u c.in-Some.ensures.0)
    ∙ sym (c.in-Some.ensures.1 (whole_at c.args.place.now u) (of_place c.args.place.now _ _ _))
