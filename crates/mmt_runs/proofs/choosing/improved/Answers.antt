use Rattle.std.proofs.Common.{refl, sym, option_map}
use Rattle.mmt_runs.specs.declared.order.UnitOrder.{UnitOrder}
use Rattle.mmt_runs.specs.Lending.{the_presentation}
use Rattle.mmt_runs.specs.Order.{order_now}
use Rattle.mmt_runs.proofs.Better.{unnamed, not_sought, not_leading, improves, at_any_time}
use Rattle.mmt_runs.proofs.choosing.improved.Goals as goal

pub returns-in-None : goal.returns-in-None
returns-in-None c = λ u f. unnamed c.args.range.now.names.now _ _ c.args.unit.now u (sym c.in-None.ensures) f

pub returns-then-not-is_sought : goal.returns-then-not-is_sought
returns-then-not-is_sought c = λ u f.
    let o : UnitOrder = record c.args.unit.now { time = c.in-Some.time } in
    not_sought c.args.range.now.names.now (order_now c.args.range.now.after) _ _ (option_map the_presentation c.args.best.now) o _ u
    (record { time = sym c.in-Some.ensures; sought_is = c.if-not-is_sought.ensures; leading_is = refl }) (at_any_time c.args.unit.now o u refl f)

pub returns-then-not-is_leading : goal.returns-then-not-is_leading
returns-then-not-is_leading c = λ u f.
    let o : UnitOrder = record c.args.unit.now { time = c.in-Some.time } in
    not_leading c.args.range.now.names.now (order_now c.args.range.now.after) _ _ (option_map the_presentation c.args.best.now) o _ u
    (record { time = sym c.in-Some.ensures; sought_is = refl; leading_is = c.if-not-is_leading.ensures }) (at_any_time c.args.unit.now o u refl f)

pub returns : goal.returns
returns c =
    let o : UnitOrder = record c.args.unit.now { time = c.in-Some.time } in (
      refl,
      λ u f.
          improves c.args.range.now.names.now (order_now c.args.range.now.after) _ _ (option_map the_presentation c.args.best.now) o u
          (record { time = sym c.in-Some.ensures; sought_is = c.if-not-is_sought.ensures; leading_is = c.if-not-is_leading.ensures }) (at_any_time c.args.unit.now o u refl f),
    )
