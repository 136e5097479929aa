use Rattle.std.proofs.Common.{◌<◌, ◌^◌, sym, ◌∙◌, ap, length, arith, subst}
use Rattle.std.specs.List.{AllByRecursion}
use Rattle.mmt_base.specs.declared.ticks.Ntp.{Ntp}
use Rattle.mmt_mpu.specs.Head.{view_unit}
use Rattle.mmt_mpu.specs.View.{units_left}
use Rattle.mmt_runs.proofs.Taking.{whole_step, whole_end}
use Rattle.mmt_runs.proofs.finding.best_whole.Goals as goal

pub loop-unit-preserved : goal.loop-unit-preserved
loop-unit-preserved c =
    let i = c.loop-unit.invariant in
    let s = c.in-Some.ensures.steps in
    let short = subst (λ us. AllByRecursion (λ u. length u.bytes < 2 ^ 31) us) s i.short in
    let zero : Ntp = record { 0 = 0 } in
    record {
      count = omega (arith, i.count, ap length s);
      short = short.1;
      found = whole_step _ _ _ _ c.args.range.now.names.now.entries c.args.span.packet_id c.args.span.number _ c.loop-unit.place zero (view_unit c.in-Some.unit) (units_left c.next.new.self) c.better_whole-best.ensures
          ∙ (rw s at i.found);
    }

pub returns : goal.returns
returns c =
    let i = c.loop-unit.invariant in
    let s = c.in-None.ensures.steps.0 in
    sym (whole_end _ _ _ c.args.range.now.names.now.entries c.args.span.packet_id c.args.span.number _ c.loop-unit.place) ∙ (rw s at i.found)
