use Rattle.std.proofs.Common.{◌≡◌, ◌<◌, ◌^◌, List, arith, sym, ◌∙◌, ap, Some, None, map, subst}
use Rattle.mmt_model.specs.Packets.{Heard}
use Rattle.mmt_mpu.specs.Spelling.{UnitValue}
use Rattle.mmt_pool.specs.Holding.{held}
use Rattle.mmt_runs.proofs.Held.{run_held}
use Rattle.mmt_model.specs.Handing.{named_units}
use Rattle.mmt_runs.specs.Reading.{heard}
use Rattle.mmt_mpu.specs.Head.{view_unit}
use Rattle.mmt_runs.specs.Lone.{Lone}
use Rattle.mmt_runs.proofs.Better.{best_nothing, best_same}
use Rattle.mmt_runs.proofs.UnitSizes.{units_below}
use Rattle.mmt_runs.proofs.Beginning.{nothing_named, media_named, refused_units, whole_bytes, middle_bytes, last_bytes, first_bytes, named_none, first_has_rest}
use Rattle.mmt_runs.proofs.finding.best_in.Goals as goal

pub returns-in-None : goal.returns-in-None
returns-in-None c = sym (best_nothing _ _ _ (nothing_named _ _ c.args.pool.now.kept _ _ (sym c.in-None.ensures.bytes)))

pub returns-in-Err : goal.returns-in-Err
returns-in-Err c = sym (best_nothing _ _ _ (media_named c.args.range.now.names.now (map heard c.args.pool.now.kept) c.args.pool.now.kept c.args.span.packet_id c.args.span.number c.in-Some.bytes.now (sym c.in-Some.ensures.bytes) ∙ named_none _ _ (refused_units (map heard c.args.pool.now.kept) c.args.span.packet_id c.args.span.number c.in-Some.bytes.now _ c.in-Err.ensures.exact)))

pub best_whole-requires : goal.best_whole-requires
best_whole-requires c = units_below c.in-Some.bytes.now _ c.in-Ok.ensures.exact c.in-Some.ensures.short

pub better_run-requires-clause-rest : goal.better_run-requires-clause-rest
better_run-requires-clause-rest c =
    first_has_rest c.args.pool.now.kept c.args.span.packet_id c.args.span.number _ _ c.in-Some.bytes.now _ (view_unit c.in-Some-lone_unit.unit) (omega arith) (sym c.in-Some.ensures.bytes) c.in-Ok.ensures.exact (sym c.units.ensures ∙ c.in-Some-lone_unit.ensures)

pub returns-in-Whole : goal.returns-in-Whole
returns-in-Whole c =
    c.best_whole.ensures
    ∙ best_same _ _ _ _ (media_named c.args.range.now.names.now (map heard c.args.pool.now.kept) c.args.pool.now.kept c.args.span.packet_id c.args.span.number c.in-Some.bytes.now (sym c.in-Some.ensures.bytes) ∙ ap (named_units c.args.range.now.names.now.sample_base c.args.range.now.names.now.entries) (whole_bytes (map heard c.args.pool.now.kept) c.args.span.packet_id c.args.span.number c.in-Some.bytes.now _ c.in-Ok.ensures.exact (sym (ap (λ h. h.part) c.head-head.ensures) ∙ c.in-Whole.is)))

pub returns-in-Some-lone_unit : goal.returns-in-Some-lone_unit
returns-in-Some-lone_unit c =
    let kept : List Heard = map heard c.args.pool.now.kept in
    let u : UnitValue = view_unit c.in-Some-lone_unit.unit in
    let small : held c.args.pool.now.kept < 2 ^ 32 = omega arith in
    (rw (c.held-most.ensures.sum, c.head-head.ensures) at c.better_run.ensures)
    ∙ best_same _ _ _ _ (media_named c.args.range.now.names.now kept c.args.pool.now.kept c.args.span.packet_id c.args.span.number c.in-Some.bytes.now (sym c.in-Some.ensures.bytes) ∙ ap (named_units c.args.range.now.names.now.sample_base c.args.range.now.names.now.entries) (first_bytes kept c.args.span.packet_id c.args.span.number c.in-Some.bytes.now _ (Some u) c.in-Ok.ensures.exact (sym (ap (λ h. h.part) c.head-head.ensures) ∙ c.in-First.is) (sym c.units.ensures ∙ c.in-Some-lone_unit.ensures) ∙ sym (run_held _ _ c.args.pool.now.kept c.args.span.packet_id c.args.span.number u small)))

pub returns-in-None-lone_unit : goal.returns-in-None-lone_unit
returns-in-None-lone_unit c =
    let l = subst (λ us. Lone us None) c.units.ensures c.in-None-lone_unit.ensures in
    sym (best_nothing _ _ _ (media_named c.args.range.now.names.now (map heard c.args.pool.now.kept) c.args.pool.now.kept c.args.span.packet_id c.args.span.number c.in-Some.bytes.now (sym c.in-Some.ensures.bytes) ∙ named_none _ _ (first_bytes (map heard c.args.pool.now.kept) c.args.span.packet_id c.args.span.number c.in-Some.bytes.now _ None c.in-Ok.ensures.exact (sym (ap (λ h. h.part) c.head-head.ensures) ∙ c.in-First.is) l)))

pub returns-in-Middle : goal.returns-in-Middle
returns-in-Middle c = sym (best_nothing _ _ _ (media_named c.args.range.now.names.now (map heard c.args.pool.now.kept) c.args.pool.now.kept c.args.span.packet_id c.args.span.number c.in-Some.bytes.now (sym c.in-Some.ensures.bytes) ∙ named_none _ _ (middle_bytes (map heard c.args.pool.now.kept) c.args.span.packet_id c.args.span.number c.in-Some.bytes.now _ c.in-Ok.ensures.exact (sym (ap (λ h. h.part) c.head-head.ensures) ∙ c.in-Middle.is))))

pub returns-in-Last : goal.returns-in-Last
returns-in-Last c = sym (best_nothing _ _ _ (media_named c.args.range.now.names.now (map heard c.args.pool.now.kept) c.args.pool.now.kept c.args.span.packet_id c.args.span.number c.in-Some.bytes.now (sym c.in-Some.ensures.bytes) ∙ named_none _ _ (last_bytes (map heard c.args.pool.now.kept) c.args.span.packet_id c.args.span.number c.in-Some.bytes.now _ c.in-Ok.ensures.exact (sym (ap (λ h. h.part) c.head-head.ensures) ∙ c.in-Last.is))))
