use Rattle.std.proofs.Common.{refl, sym, ◌∙◌, ap, map, Some}
use Rattle.mmt_model.specs.Units.{next_number, media_link}
use Rattle.mmt_mpu.specs.Head.{view_unit}
use Rattle.mmt_runs.specs.declared.order.UnitOrder.{UnitOrder}
use Rattle.mmt_runs.specs.Lending.{the_presentation, parts_from}
use Rattle.mmt_runs.specs.Reading.{heard}
use Rattle.mmt_runs.proofs.Taking.{run_lent, run_length, run_kept, no_run, one_run, run_unit}
use Rattle.mmt_runs.proofs.finding.better_run.Goals as goal

pub returns-in-None : goal.returns-in-None
returns-in-None c = sym (run_kept _ _ _ c.args.range.now.names.now.entries (map heard c.args.pool.now.kept) c.args.span.packet_id c.args.span.number c.args.head.timed c.args.head.mpu c.args.most (view_unit c.args.unit.now) _ c.in-None.ensures)

pub returns-in-None-rest_of_run : goal.returns-in-None-rest_of_run
returns-in-None-rest_of_run c =
    sym (no_run _ _ _ c.args.range.now.names.now.entries (map heard c.args.pool.now.kept) c.args.span.packet_id c.args.span.number c.args.head.timed c.args.head.mpu c.args.most (view_unit c.args.unit.now)
    (rw (c.span_after.ensures.packet_id, c.span_after.ensures.number) at c.in-None-rest_of_run.ensures.follows))

pub new-requires : goal.new-requires
new-requires c =
    let u = view_unit c.args.unit.now in
    let f = rw (c.span_after.ensures.packet_id, c.span_after.ensures.number) at c.in-Some-rest_of_run.ensures.follows in
    let place : UnitOrder = record c.in-Some.order { packet_id = c.args.span.packet_id; mpu = c.args.head.mpu; key = u.head.key; first_number = c.args.span.number; place = 0 } in
    run_length (map heard c.args.pool.now.kept) c.in-Some.order place c.args.head.timed u c.in-Some-rest_of_run.rest.count c.in-Some-rest_of_run.rest.length c.in-Some.ensures.0 f.1

pub returns : goal.returns
returns c =
    let u = view_unit c.args.unit.now in
    let f = rw (c.span_after.ensures.packet_id, c.span_after.ensures.number) at c.in-Some-rest_of_run.ensures.follows in
    let kept = map heard c.args.pool.now.kept in
    let place : UnitOrder = record c.in-Some.order { packet_id = c.args.span.packet_id; mpu = c.args.head.mpu; key = u.head.key; first_number = c.args.span.number; place = 0 } in
    ap (λ x. Some x) (ap the_presentation c.new.ensures ∙ run_lent kept c.in-Some.order place c.args.head.timed u c.in-Some-rest_of_run.rest.count c.in-Some.ensures.0)
    ∙ (sym (c.in-Some.ensures.1 (run_unit c.args.span.packet_id c.args.span.number c.args.head.mpu u (parts_from (media_link c.args.head.timed c.args.head.mpu) kept c.args.span.packet_id c.in-Some-rest_of_run.rest.count (next_number c.args.span.number))) (record { packet_id = refl; mpu = refl; key = refl; number = refl; place = refl }))
    ∙ sym (one_run _ _ _ c.args.range.now.names.now.entries kept c.args.span.packet_id c.args.span.number c.args.head.timed c.args.head.mpu c.args.most u _ f.0))
