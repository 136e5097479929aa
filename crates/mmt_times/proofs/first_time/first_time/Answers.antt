use Rattle.mmt_times.specs.TimesLeft.{units_left}
use Rattle.mmt_times.proofs.TimesSteps.{range_stop, range_first}
use Rattle.mmt_times.proofs.first_time.first_time.Goals as goal

pub returns-in-Some-Some-default : goal.returns-in-Some-Some-default
returns-in-Some-Some-default c =
    let w = c.in-Some-Some-default in
    let first = rw w.field-0-0-is at w.ensures.first in
    range_first (units_left c.args.times.now) (units_left w.after) w.time.0 first

pub returns-in-Some-None-default : goal.returns-in-Some-None-default
returns-in-Some-None-default c =
    let w = c.in-Some-None-default in
    let first = rw w.field-0-0-is at w.ensures.first in
    range_stop (units_left c.args.times.now) _ first
