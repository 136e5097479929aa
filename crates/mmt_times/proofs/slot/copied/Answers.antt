use Rattle.std.proofs.Common.{rules}
use Rattle.mmt_times.specs.TimesLeft.{view_time, times_left}
use Rattle.mmt_times.proofs.Copying.{copied_one}
use Rattle.mmt_times.proofs.slot.copied.Goals as goal

pub loop-time-preserved : goal.loop-time-preserved
loop-time-preserved c =
    let kept = rw c.in-Some.ensures.steps at c.loop-time.invariant in
    (search rules, search rules, copied_one view_time c.loop-time.aus c.loop-time.count c.in-Some.time (times_left c.next.new.self) (times_left c.args.times) (search rules) kept.2)
