use Rattle.std.proofs.Common.{◌<◌, ◌^◌, map, sym, arith}
use Rattle.mmt_pool.specs.Holding.{held}
use Rattle.mmt_runs.specs.Reading.{heard}
use Rattle.mmt_runs.proofs.Sides.{back_none, back_some, on_none_left, on_some, no_sides, part_sided}
use Rattle.mmt_runs.proofs.messages.may_be_whole.Goals as goal

pub returns-in-None : goal.returns-in-None
returns-in-None c =
    let b : held c.args.pool.now.kept < 2 ^ 32 = omega (arith, c.held-most.ensures.sum) in
    λ e. no_sides c.args.pool.now.kept c.args.span.packet_id c.args.span.number (omega arith) b c.held-most.ensures.in_order c.held-most.ensures.keepable (sym c.in-None.ensures)

pub loop-step-init : goal.loop-step-init
loop-step-init c =
    let b : held c.args.pool.now.kept < 2 ^ 32 = omega (arith, c.held-most.ensures.sum) in
    part_sided c.args.pool.now.kept c.args.span.packet_id c.args.span.number c.in-Some.sides.0 c.in-Some.sides.1 (omega arith) b c.held-most.ensures.in_order c.held-most.ensures.keepable (sym c.in-Some.ensures)

pub returns-in-None-step_back : goal.returns-in-None-step_back
returns-in-None-step_back c = λ e. c.loop-step.invariant.first (back_none (map heard c.args.pool.now.kept) c.args.span.packet_id c.loop-step.before (sym c.in-None-step_back.ensures))

pub returns-in-None-step_on : goal.returns-in-None-step_on
returns-in-None-step_on c = λ e. c.loop-step.invariant.last (on_none_left (map heard c.args.pool.now.kept) c.args.span.packet_id c.loop-step.after (sym c.in-None-step_on.ensures))

pub loop-step-preserved : goal.loop-step-preserved
loop-step-preserved c =
    record {
      first = λ none. c.loop-step.invariant.first (back_some (map heard c.args.pool.now.kept) c.args.span.packet_id c.loop-step.before c.in-Some-step_back.before (sym c.in-Some-step_back.ensures) none);
      last = λ none. c.loop-step.invariant.last (on_some (map heard c.args.pool.now.kept) c.args.span.packet_id c.loop-step.after c.in-Some-step_on.after (sym c.in-Some-step_on.ensures) none);
    }
