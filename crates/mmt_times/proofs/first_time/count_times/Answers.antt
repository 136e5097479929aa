use Rattle.std.proofs.Common.{sym, ◌∙◌, ap, arith, length}
use Rattle.mmt_times.specs.TimesLeft.{units_left}
use Rattle.mmt_times.proofs.TimesSteps.{range_none, range_count, all_first, all_none, all_stop, all_is, none_is}
use Rattle.mmt_times.specs.Times.{all_in_range}
use Rattle.mmt_times.proofs.first_time.count_times.Goals as goal

pub returns-in-None : goal.returns-in-None
returns-in-None c =
    let here = units_left c.loop-after.rest in
    let none = c.in-None.ensures.first in
    let all = sym c.loop-after.invariant.all ∙ all_none here none in
    let no_time = ap length (range_none here none) in
    (all_is (units_left c.args.times.now) all, omega arith)

pub returns-in-Some-None-default : goal.returns-in-Some-None-default
returns-in-Some-None-default c =
    let w = c.in-Some-None-default in
    let first = rw w.field-0-0-is at w.ensures.first in
    none_is (all_in_range (units_left c.args.times.now)) (sym c.loop-after.invariant.all ∙ all_stop (units_left c.loop-after.rest) _ first)

pub loop-after-preserved : goal.loop-after-preserved
loop-after-preserved c =
    let w = c.in-Some-Some-default in
    let first = rw w.field-0-0-is at w.ensures.first in
    let all = all_first (units_left c.loop-after.rest) (units_left w.after) _ first in
    let more = range_count (units_left c.loop-after.rest) (units_left w.after) _ first in
    record {
      all = sym all ∙ c.loop-after.invariant.all;
      counted = omega (arith, more, c.loop-after.invariant.counted, w.ensures.less);
      fewer = omega (arith, w.ensures.less, c.loop-after.invariant.fewer);
    }
